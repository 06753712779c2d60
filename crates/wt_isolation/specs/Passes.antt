-- What is known of a page that was read up to a place, so that no block reads it from its beginning again.
use Rattle.std.specs.Prelude.{◌≡◌, ◌<◌, ◌≤◌, ◌-◌, ◌==◌, ◌&&◌, ℕ, Bool, List, length, take, nat_lt, slice_index, if◌then◌else◌}
use Rattle.std.specs.List.{list_any}
use Rattle.wt_span.specs.Origins.{Expanded, Span}
use Rattle.wt_span.specs.Characters as byte
use Rattle.wt_tree.specs.declared.kind.Ranges.{Ranges}
use Rattle.wt_isolation.specs.OpenTags.{ends_open}
use Rattle.wt_isolation.specs.TextCalls.{share_byte}
use Rattle.wt_isolation.specs.declared.text_call.CallPass.{CallPass}
use Rattle.wt_isolation.specs.declared.passes.Passes.{Passes}
use Rattle.wt_isolation.specs.declared.ending.Ending.{Ending}
use Rattle.wt_isolation.specs.declared.ending.Ending.TheVariants as ending
use Rattle.wt_isolation.specs.declared.tag_pass.TagPass.{TagPass}

-- ---- open tags

-- the last byte is a `<`
abbrev pub ends_with_less : List ℕ → Bool
ends_with_less bs = nat_lt 0 (length bs) && slice_index bs (length bs - 1) == byte.less_than

-- how a text ends: in an open tag, directly after a `<`, or else outside
unfoldable pub ending_of : List ℕ → Ending
ending_of bs = if ends_open bs then ending.InTag else (if ends_with_less bs then ending.BehindLess else ending.Outside)

-- the page was read up to this place, and what comes before it ends so
pub record IsReadTo (page : List ℕ) (p : TagPass) : Type 0 where
  pub within : p.place ≤ length page
  pub ends : p.ending ≡ ending_of (take p.place page)

-- ---- text calls

-- Of the calls that were passed: a block that ends at `reached` or after it shares a byte with one of them exactly where it begins
-- before `furthest`.
pub record ArePassed (calls : List Span) (p : CallPass) : Type 0 where
  pub within : p.passed ≤ length calls
  pub told : (r : Ranges) → r.start < r.end → p.reached ≤ r.end → list_any (λ s. share_byte s r) (take p.passed calls) ≡ nat_lt r.start p.furthest

-- ---- both

-- passes over a page and its text calls
pub record AreOf (items : Expanded) (page : List ℕ) (p : Passes) : Type 0 where
  pub calls : ArePassed items.text_calls p.calls
  pub tags : IsReadTo page p.tags
