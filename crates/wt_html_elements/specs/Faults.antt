-- Why a byte isn't taken.
use Rattle.std.specs.Prelude.{ℕ, if◌then◌else◌}
use Rattle.wt_html_grammar.specs.declared.why.HtmlWhy.{HtmlWhy}
use Rattle.wt_html_grammar.specs.declared.why.HtmlWhy.TheVariants as why
use Rattle.wt_html_grammar.specs.Signs.{begins_character}

-- a byte that continues no UTF-8 is refused for that
abbrev pub mended_why : ℕ → HtmlWhy → HtmlWhy
mended_why b w = if begins_character b then w else why.NotUtf8
