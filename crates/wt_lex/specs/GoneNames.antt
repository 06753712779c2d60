-- That a closing tag is sought in vain.
use Rattle.std.specs.Prelude.{◌≡◌, ℕ, None, List, drop}
use Rattle.wt_span.specs.Bytes.{lower}
use Rattle.wt_span.specs.Tags.{to_closing}
use Rattle.wt_lex.specs.declared.gone.Gone.{Gone}

abbrev pub IsGone : List ℕ → Gone → Type 0
IsGone text g = to_closing (lower g.name.now) (drop g.from text) ≡ None
