use Rattle.workload_gen.proofs.Fitting.{is-script}
use Rattle.workload_gen.proofs.Short.{is-short}
use Rattle.workload_gen.proofs.Whole.{is-read}
use Rattle.workload_gen.proofs.laws.workloads_are_read.Goals as goal

pub returns : goal.returns
returns c = λ start n cpus is. record { script = is-script start n cpus is; read = is-read start n cpus is; short = is-short start n cpus is }
