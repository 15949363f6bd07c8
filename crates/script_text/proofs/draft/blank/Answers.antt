use Rattle.script_text.proofs.Indexes.{indexed-is}
use Rattle.script_text.proofs.draft.blank.Goals as goal

pub returns-clause-index : goal.returns-clause-index
returns-clause-index c = indexed-is _ _ _ c.new.ensures.items c.new-2.ensures.items c.new-3.ensures.items
