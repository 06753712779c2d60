use Rattle.std.proofs.Common.{◌≡◌, length, sym, append-nil}
use Rattle.std.proofs.lemmas.Bool.Decides.{Decides-eqb}
use Rattle.wt_guards.proofs.Texts.{letters_empty}
use Rattle.wt_guards.specs.Views.{all_signs}
use Rattle.wt_escape.proofs.units.push_text.Goals as goal

pub returns-else-not-is_empty : goal.returns-else-not-is_empty
returns-else-not-is_empty c =
    let e : length c.args.text.now ≡ 0 = (Decides-eqb (length c.args.text.now) 0).0 (sym (c.if-not-is_empty.ensures)) in
    rw (letters_empty c.args.text.now e) (sym (append-nil (all_signs c.args.out.now.items)))
