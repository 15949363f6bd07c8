use Rattle.msix_function.proofs.Balance.{balanced}
use Rattle.msix_function.proofs.function.Function.keeps_balance.Goals as goal

pub returns : goal.returns
returns g c = record { balance = λ opening operations k below at_power_on lead. balanced opening c.args.self.now operations k below at_power_on lead }
