use Rattle.wt_expansion.proofs.SoundCalls.{calls_are_sound}
use Rattle.wt_expansion.proofs.SoundItems.{items_are_sound}
use Rattle.wt_expansion.proofs.TextOrder.{text_calls_in_order}
use Rattle.wt_expansion.proofs.laws.page_is_sound.Goals as goal

pub returns-clause-items : goal.returns-clause-items
returns-clause-items c = items_are_sound

pub returns-clause-calls : goal.returns-clause-calls
returns-clause-calls c = calls_are_sound

pub returns-clause-text_calls : goal.returns-clause-text_calls
returns-clause-text_calls c = text_calls_in_order
