-- What the parts of a group stand for on the page. A group has so many items (`size`) after so many others (`from`).
use Rattle.std.specs.Prelude.{◌≡◌, ◌≢◌, ℕ, suc, ◌+◌, ◌-◌, ◌<◌, ◌≤◌, true, Some, List, [], ◌∷◌, slice_get}
use Rattle.wt_span.specs.Items.{Item}
use Rattle.wt_span.specs.Origins.{OuterCall}
use Rattle.wt_span.specs.Cuts.{is_free, call_of_item, source_of_call}
use Rattle.wt_annotated.specs.GroupParts.{Part, called, between}
use Rattle.wt_page_laws.specs.ReadingPlaces.{IsFirst, IsNowhere}

-- in the group, after `before` of all items, comes an item from this call, and the item before it isn't from it
pub record CallBegins (all : List Item) (from size before call : ℕ) : Type 0 where
  pub starts : from ≤ before
  pub ends : before < from + size
  pub free : is_free all before ≡ true
  pub comes : call_of_item (slice_get all before) ≡ Some call

-- some call begins there
abbrev pub Begins : List Item → ℕ → ℕ → ℕ → Type 0
Begins all from size before = (call : ℕ) × CallBegins all from size before call

-- what a part is on the page
abbrev pub page_text : List OuterCall → Part → List ℕ
page_text calls (called k) = source_of_call (slice_get calls k)
page_text calls (between bs) = bs

-- the numbers of the calls among parts
abbrev pub calls_among : List Part → List ℕ
calls_among [] = []
calls_among (called k ∷ ps) = k ∷ calls_among ps
calls_among (between bs ∷ ps) = calls_among ps

-- These are the calls that begin in the group: the first that begins, and after it again these, and none else.
abbrev pub AreItsCalls : List Item → ℕ → ℕ → List ℕ → Type 0
AreItsCalls all from size [] = IsNowhere (Begins all from size)
AreItsCalls all from size (call ∷ more) =
    (before : ℕ) × IsFirst (Begins all from size) before × CallBegins all from size before call
    × AreItsCalls all (suc before) ((from + size) - suc before) more

-- parts that follow a call: each text is alone between two calls and isn't empty
abbrev pub FollowCall : List Part → Type 0
FollowCall [] = Unit {0}
FollowCall (called k ∷ ps) = FollowCall ps
FollowCall (between bs ∷ []) = ⊥
FollowCall (between bs ∷ called k ∷ ps) = (bs ≢ []) × FollowCall ps
FollowCall (between bs ∷ between cs ∷ ps) = ⊥

-- parts begin and end with a call
abbrev pub AreParted : List Part → Type 0
AreParted [] = Unit {0}
AreParted (called k ∷ ps) = FollowCall ps
AreParted (between bs ∷ ps) = ⊥
