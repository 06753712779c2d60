-- Worked cases: open tags at the end of a text.
use Rattle.std.proofs.Common.{◌≡◌, true, false, refl}
use Rattle.std.specs.Prelude.{codes}
use Rattle.wt_isolation.specs.OpenTags.{ends_open}

tag_begun : ends_open (codes "a <b c") ≡ true
tag_begun = refl

tag_closed : ends_open (codes "a <b> c") ≡ false
tag_closed = refl

no_letter : ends_open (codes "a < b") ≡ false
no_letter = refl

line_between : ends_open (codes "<b\nc") ≡ false
line_between = refl
