-- What the code's units stand for.
use Rattle.std.specs.Prelude.{◌≡◌, ℕ, suc, length, IfOk, Result, List, [], ◌∷◌, ◌++◌, option_map, Bool, true, false, Option, Some, None}
use Rattle.std.specs.List.{flat_map}
use Rattle.wt_guards.specs.declared.signs.Thing.{Thing as Written}
use Rattle.wt_guards.specs.declared.signs.Unit.{Unit as Written_unit}
use Rattle.wt_guards.specs.declared.signs.Unit.TheVariants as unit
use Rattle.wt_guards.specs.declared.signs.ContentSign.{ContentSign as Read}
use Rattle.wt_guards.specs.declared.signs.ContentSign.TheVariants as read
use Rattle.wt_guards.specs.declared.signs.Signs.{Signs}
use Rattle.wt_guards.specs.declared.behind.Behind.{Behind}
use Rattle.std.specs.declared.alloc.AllocError.{AllocError}
use Rattle.wt_guards.specs.declared.content.ContentWalk.{ContentWalk}
use Rattle.wt_guards.specs.declared.guards.Setting.{Setting}
use Rattle.wt_guards.specs.Content.{Thing, ContentSign, letter, thing, letters, nearest, is_group}
use Rattle.wt_guards.specs.Letters.{is_clear, is_indented}
use Rattle.wt_guards.specs.Guards.{is_line_begun, is_unended, is_nearest, is_group_or_bare, is_past_node, reached, spelled_from, Setting as Means}

abbrev pub thing_of : Written → Thing
thing_of t = record { role = t.role; source = t.source; place = t.place }

abbrev pub signs_in : Written_unit → List ContentSign
signs_in (unit.Text t) = letters t.now
signs_in (unit.Copied t) = letters t
signs_in (unit.Thing t) = thing (thing_of t) ∷ []

-- of all units
abbrev pub all_signs : List Written_unit → List ContentSign
all_signs us = flat_map signs_in us

abbrev pub sign_of : Read → ContentSign
sign_of (read.Letter c) = letter c
sign_of (read.Thing t) = thing (thing_of t.now)

-- what is left to read
abbrev pub signs_left : Signs → List ContentSign
signs_left s = letters s.text.now ++ flat_map signs_in s.units.now

abbrev pub is_no_sign : List ContentSign → Bool
is_no_sign [] = true
is_no_sign (s ∷ signs) = false

-- what is known of these signs before a place
pub record IsBehind (source : List ℕ) (before : List ContentSign) (b : Behind) : Type 0 where
  pub last : option_map sign_of b.last ≡ nearest before
  pub begun : b.is_line_begun ≡ is_line_begun before
  pub unended : b.is_unended ≡ is_unended before
  pub clear : b.is_clear ≡ is_clear before
  pub indented : b.is_indented ≡ is_indented before
  pub near : b.is_group_near ≡ is_nearest is_group_or_bare before
  pub past_node : b.is_past_node ≡ is_past_node before
  pub reached_at : b.reached ≡ reached source before

-- what may be known of the signs ahead: whether the nearest one is a group
abbrev pub Knows : Option Bool → List ContentSign → Type 0
Knows None signs = Unit {0}
Knows (Some answer) signs = answer ≡ is_nearest is_group signs

abbrev pub setting_of : Setting → Means
setting_of s = record { within = s.within; place = s.place; source = s.source.now }

-- A walk through the content: the signs before the place, what is known of them and of those after it, and what is written so far
-- and will be.
pub record Walks (s : Means) (all out : List ℕ) (w : ContentWalk) : Type 0 where
  pub before : List ContentSign
  pub is_behind : IsBehind s.source before w.behind
  pub is_known : Knows w.known (signs_left w.rest)
  pub written : out ++ spelled_from s before (signs_left w.rest) ≡ all

-- One step of it: the last one, where no sign is left, or one over a sign.
abbrev pub StepsTo : Means → List ContentSign → List ContentSign → List ℕ → List ℕ → Option ContentWalk → Type 0
StepsTo s before signs old new None = new ≡ old ++ spelled_from s before signs
StepsTo s before signs old new (Some w) = Walks s (old ++ spelled_from s before signs) new w × (suc (length (signs_left w.rest)) ≡ length signs)

abbrev pub Steps : Means → List ContentSign → List ContentSign → List ℕ → List ℕ → Result (Option ContentWalk) AllocError → Type 0
Steps s before signs old new result = IfOk result (λ w. StepsTo s before signs old new w)
