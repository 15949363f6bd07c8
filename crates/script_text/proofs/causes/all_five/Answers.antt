use Rattle.script_text.proofs.Fields.{five}
use Rattle.script_text.proofs.causes.all_five.Goals as goal

pub returns-in-Err : goal.returns-in-Err
returns-in-Err g c = five c.args.a c.args.b c.args.c c.args.d c.args.e c.all_three.result c.in-Err.cause c.all_three.ensures c.in-Err.ensures
