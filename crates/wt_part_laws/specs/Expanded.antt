-- A page of two parts, of which each is expanded as it is by itself.
use Rattle.std.specs.Prelude.{◌≡◌, ℕ, ◌+◌, true, false, Option, Some, None, List, [], ◌∷◌, ◌++◌, length, map}
use Rattle.wt_span.specs.declared.form.Mode.TheVariants.{Page}
use Rattle.wt_span.specs.Braces.{Member, lexeme, call}
use Rattle.wt_span.specs.Items.{Item}
use Rattle.wt_span.specs.Origins.{OuterCall, Span}
use Rattle.wt_expand.specs.Work.{Pages}
use Rattle.wt_expand.specs.Expansion.{page_reading, text_given, page_work}
use Rattle.wt_expand.specs.PageCalls.{Stretch, own, outer, text_call, numbered, page_stretches, expanded_page}
use Rattle.wt_part_laws.specs.Apart.{given_from, AreReadApart, stretches_from, AreAlike}

-- ---- calls that are so many bytes later in a page

abbrev pub moved_span : ℕ → Span → Span
moved_span d s = (d + s.0, d + s.1)

abbrev pub moved_place : ℕ → Option ℕ → Option ℕ
moved_place d None = None
moved_place d (Some at) = Some (d + at)

abbrev pub moved_call : ℕ → OuterCall → OuterCall
moved_call d c = record c { start = d + c.start; parts = map (moved_span d) c.parts; equals = map (moved_place d) c.equals }

abbrev pub moved_stretch : ℕ → Stretch → Stretch
moved_stretch d (own xs) = own xs
moved_stretch d (outer c xs) = outer (moved_call d c) xs
moved_stretch d (text_call s) = text_call (moved_span d s)

-- ---- what a part gives

-- its items, where so many outermost calls come before it in the page
abbrev pub part_items : Pages → ℕ → List ℕ → List Item
part_items pages k bs = numbered k (page_stretches pages bs)

-- how many outermost calls it has
abbrev pub calls_in : Pages → List ℕ → ℕ
calls_in pages bs = length (expanded_page pages bs).outer

-- It gives the same where a line begins and where none does. What a call gives hangs on that where it begins with a sign of a block.
pub record GivesAnywhere (pages : Pages) (bs : List ℕ) : Type 0 where
  pub outputs : given_from (page_reading pages) false bs ≡ given_from (page_reading pages) true bs
  pub alike : (at : ℕ) → AreAlike (stretches_from (page_reading pages) at false bs) (stretches_from (page_reading pages) at true bs)

-- it is empty, or begins with no call
abbrev pub BeginsPlain : List Member → Type 0
BeginsPlain [] = Unit {0}
BeginsPlain (lexeme w ∷ ms) = Unit {0}
BeginsPlain (call k inside ∷ ms) = ⊥

-- ---- the page

-- Two parts of which each is read as it is by itself, and the second gives the same wherever it begins.
pub record AreParts (pages : Pages) (bs cs : List ℕ) : Type 0 where
  pub read : AreReadApart Page bs cs
  pub anywhere : GivesAnywhere pages cs

-- The page has the items of the first one, and behind them those of the second one, where the calls of the first come before; and so for its
-- calls, those that are text, and the work of expanding it.
pub record ExpandsBoth (pages : Pages) (bs cs : List ℕ) : Type 0 where
  pub items : (expanded_page pages (bs ++ cs)).items
      ≡ (expanded_page pages bs).items ++ numbered (length (expanded_page pages bs).outer) (page_stretches pages cs)
  pub outer_calls : (expanded_page pages (bs ++ cs)).outer ≡ (expanded_page pages bs).outer ++ map (moved_call (length bs)) (expanded_page pages cs).outer
  pub text_calls : (expanded_page pages (bs ++ cs)).text_calls
      ≡ (expanded_page pages bs).text_calls ++ map (moved_span (length bs)) (expanded_page pages cs).text_calls
  pub work : page_work pages (bs ++ cs) ≡ page_work pages bs ++ (text_given (page_reading pages) cs).work
