-- What an input of HTML is: a page with its first element without a source, or where and why it is
-- no HTML, or the first element that doesn't fit.
use Rattle.std.specs.Prelude.{◌≡◌, ℕ, true, Option, Result, Ok, Err, List, length, if◌then◌else◌}
use Rattle.wt_tree.specs.Tree.{Tree}
use Rattle.wt_html_grammar.specs.declared.why.HtmlWhy.{HtmlWhy}
use Rattle.wt_html_grammar.specs.declared.why.HtmlWhy.TheVariants as html_why
use Rattle.wt_html_grammar.specs.Machine.{State, start, run}
use Rattle.wt_html_grammar.specs.Places.{IsPlace, taken, is_accepted}
use Rattle.wt_html_reasons.specs.Reasons.{Holds, comes_before}
use Rattle.wt_html_grammar.specs.Markup.{Markup, Markups, empty, more, Stands}
use Rattle.wt_html_grammar.specs.Events.{built}
use Rattle.wt_schema.specs.declared.why.FitWhy.{FitWhy}
use Rattle.wt_schema.specs.Fit.{Misfit, fit}
use Rattle.wt_schema.specs.Unsourced.{unsourced}

pub data Read : Type 0 where
  page : Tree → Option ℕ → Read
  ill : ℕ → HtmlWhy → Read
  misfit : ℕ → FitWhy → Read

abbrev pub read_fit : Option ℕ → Result Tree Misfit → Read
read_fit u (Ok t) = page t u
read_fit u (Err m) = misfit m.0 m.1

-- what a tree of elements is
unfoldable pub read_tree : Markup → Read
read_tree m = read_fit (unsourced m) (fit m)

-- the one root (the bytes that are accepted build one)
abbrev pub read_root : List ℕ → Markups → Read
read_root bytes empty = ill (length bytes) html_why.End
read_root bytes (more m ms) = read_tree m

-- by the machine that reads the grammar
abbrev pub read_run : List ℕ → Result State HtmlWhy → Read
read_run bytes (Err w) = ill (taken start bytes) w
read_run bytes (Ok s) = if is_accepted s then read_root bytes (built bytes).root else ill (length bytes) html_why.End

unfoldable pub read : List ℕ → Read
read bytes = read_run bytes (run start bytes)

-- refused at the end of the longest piece that begins a well-formed input, for the first reason that
-- holds there
abbrev pub IsRefusedFor : List ℕ → ℕ → HtmlWhy → Type 0
IsRefusedFor bytes place w = IsPlace bytes place × Holds w bytes place × ((v : HtmlWhy) → comes_before v w ≡ true → Holds v bytes place → ⊥)

-- the same in the grammar's words: the bytes stand for a tree of elements, which is this page
abbrev pub IsRead : List ℕ → Read → Type 0
IsRead bytes (page t u) = (m : Markup) × Stands bytes m × (fit m ≡ Ok t) × (unsourced m ≡ u)
IsRead bytes (ill place w) = IsRefusedFor bytes place w
IsRead bytes (misfit n w) = (m : Markup) × Stands bytes m × (fit m ≡ Err (n, w))
