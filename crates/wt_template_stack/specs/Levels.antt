-- Levels of a text as they are, and what they give in all.
use Rattle.std.specs.Prelude.{◌≡◌, ◌<◌, ◌≤◌, ℕ, suc, ◌+◌, Bool, Option, Some, None, List, [], ◌∷◌, map, length, drop, slice_get, String, string_bytes}
use Rattle.std.specs.declared.alloc.Global.{Global}
use Rattle.wt_span.specs.Items.{items}
use Rattle.wt_span.specs.Braces.{Member}
use Rattle.wt_span.specs.declared.form.Mode.{Mode}
use Rattle.wt_span.specs.declared.function.Function.{Function}
use Rattle.wt_braces.specs.declared.call.PartAt.{PartAt}
use Rattle.wt_braces.specs.PartMembers.{PartMembers, part_members, placed, width_of}
use Rattle.wt_braces.specs.Views.{part_of}
use Rattle.wt_expand.specs.Texts.{name_text}
use Rattle.wt_expand.specs.Asking.{have_names}
use Rattle.wt_expand.specs.Work.{Entry}
use Rattle.wt_expand.specs.Expansion.{Output, Reading, PartOutput, Frame, just, then_output, later_parts, chosen_output}
use Rattle.wt_transclusion.specs.declared.read.Braces.{Braces}
use Rattle.wt_transclusion.specs.Cursors.{starts}
use Rattle.wt_transclusion.specs.Ends.{BeginsAscii}
use Rattle.wt_values.specs.Frames.{AreValues}
use Rattle.wt_transclusion.specs.Parts.{parts_given}
use Rattle.wt_transclusion.specs.Steps.{IsStretchOf, given_from}
use Rattle.wt_template_stack.specs.declared.choosing.Choosing.{Choosing}
use Rattle.wt_template_stack.specs.declared.level.Level.{Level}
use Rattle.wt_template_stack.specs.declared.level.PendingCall.{PendingCall}
use Rattle.wt_template_stack.specs.declared.level.Task.{Task}
use Rattle.wt_template_stack.specs.declared.level.Task.TheVariants as task
use Rattle.wt_template_stack.specs.Accounts.{Account, IsLast}
use Rattle.wt_template_stack.specs.Calls.{ArePartsAt, HaveBars, IsBefore, IsCallOf, source_of, parts_of_call, first_end, behind_given}
use Rattle.wt_template_stack.specs.Readers.{IsReading}
use Rattle.wt_template_stack.specs.Rests.{with_work, ended_with, after_argument, after_value, after_name, after_text, after_target, after_given, behind_word, after_told}
use Rattle.wt_template_stack.specs.ToldParts.{name_end}

-- ---- calls whose values are read

-- the values so far are those of a frame, and these parts are left, from a place on
pub record IsHanding (m : Mode) (t : List ℕ) (h : PendingCall) (frame : Frame) (at : ℕ) (ps : List PartMembers) : Type 0 where
  pub values : AreValues h.handed.values frame
  pub parts : drop h.part (map part_of h.call.parts.now) ≡ placed at ps
  pub stand : ArePartsAt m t h.call.at.end at ps
  pub bars : HaveBars ps
  pub fits : h.call.at.end ≤ length t

-- the text of a name that was read is that of what it gives
abbrev pub IsNamedBy : Option (String Global) → Option Output → Type 0
IsNamedBy None None = Unit {0}
IsNamedBy None (Some o) = ⊥
IsNamedBy (Some s) None = ⊥
IsNamedBy (Some s) (Some o) = string_bytes s ≡ name_text o.items

-- ---- functions whose parts are told

-- what is kept of a function: its call, the text where it begins, and which of its parts have a name
pub record IsChoosing (r : Reading) (t : List ℕ) (c : Choosing) : Type 0 where
  pub call : IsCallOf r.mode t c.call
  pub begun : IsReading r.mode t c.begun call.at c.at_start
  pub function_is : c.chooser.function ≡ c.function
  pub equals_are : c.chooser.equals ≡ have_names (parts_of_call r t c.call call)

-- A later part that is being told: what was done of it is what was done last. If it has no name, that and what it still gives (`o`) are
-- all that the part is given by.
pub record IsToldSince (total : Account) (b : Braces) (f : Function) (number spent : ℕ) (ps : List PartOutput) (o : Output) : Type 0 where
  pub done : List Entry
  pub last : IsLast total spent done
  pub gives : (part : PartAt) → slice_get b.parts.now number ≡ Some part → name_end f part.equals ≡ None
      → chosen_output f (Some number) ps ≡ with_work done o

-- ---- what is done where a level ends

-- where the call ends, and what it gives
abbrev pub Back : Type 1
Back = ℕ → Output → Type 0

-- The name of a value is read up to `e`, and the value ends at `to`. No value that was read has a number as high as that of its part.
pub record NameWaits (r : Reading) (t : List ℕ) (e : ℕ) (h : PendingCall) (to : ℕ) (back : Back) (o : Output) : Type 0 where
  pub frame : Frame
  pub value : List Member
  pub at : ℕ
  pub ps : List PartMembers
  pub pending : IsHanding r.mode t h frame at ps
  pub value_ends : to ≡ e + 1 + width_of value
  pub stretch : IsStretchOf r.mode t (e + 1) to value
  pub numbered : h.handed.number < h.part
  pub before : IsBefore to at ps
  pub within : to < h.call.at.end
  pub gives : back h.call.at.end
      (after_name r h.at_start h.title frame h.handed.number (given_from r (starts t (e + 1)) t (e + 1) value) (parts_given r (starts t at) t at ps) o)

-- a value is read up to `e`
pub record ValueWaits (r : Reading) (t : List ℕ) (e : ℕ) (h : PendingCall) (name : Option (String Global)) (back : Back) (o : Output) : Type 0 where
  pub frame : Frame
  pub given : Option Output
  pub at : ℕ
  pub ps : List PartMembers
  pub pending : IsHanding r.mode t h frame at ps
  pub named : IsNamedBy name given
  pub numbered : h.handed.number < h.part
  pub before : IsBefore e at ps
  pub within : e < h.call.at.end
  pub gives : back h.call.at.end (after_value r h.at_start h.title frame h.handed.number given (parts_given r (starts t at) t at ps) o)

-- the target of a call that is no function is read up to `e`
pub record TargetWaits (r : Reading) (t : List ℕ) (e : ℕ) (b : Braces) (at_start : Bool) (back : Back) (o : Output) : Type 0 where
  pub call : IsCallOf r.mode t b
  pub end_is : e ≡ first_end (call.at + call.braces) (part_members 0 call.inside)
  pub gives : back b.at.end (after_target r at_start call.braces (source_of r.mode t b call) (later_parts (parts_of_call r t b call))
      (behind_given r t b call) o)

-- the name of an argument is read up to `e`
pub record ArgumentWaits (r : Reading) (t : List ℕ) (e : ℕ) (b : Braces) (back : Back) (o : Output) : Type 0 where
  pub call : IsCallOf r.mode t b
  pub end_is : e ≡ first_end (call.at + call.braces) (part_members 0 call.inside)
  pub gives : back b.at.end (after_argument r.frame (later_parts (parts_of_call r t b call)) o)

-- a call that is text is read up to its last braces
pub record TextWaits (r : Reading) (t : List ℕ) (e : ℕ) (b : Braces) (back : Back) (o : Output) : Type 0 where
  pub call : IsCallOf r.mode t b
  pub end_is : e + call.braces ≡ b.at.end
  pub gives : back b.at.end (after_text call.braces (source_of r.mode t b call) o)

-- a part that is told to a function is read up to `e`, and the next one begins after it
pub record ToldWaits (r : Reading) (t : List ℕ) (e : ℕ) (c : Choosing) (total : Account) (back : Back) (o : Output) : Type 0 where
  pub choosing : IsChoosing r t c
  pub before : (next : PartAt) → slice_get c.call.parts.now (suc (length c.chooser.texts)) ≡ Some next → e < next.at.start
  pub within : e < c.call.at.end
  pub since : 0 < c.number → IsToldSince total c.call c.function c.number c.spent (parts_of_call r t c.call choosing.call) o
  pub gives : back c.call.at.end (after_told c.at_start c.chooser (parts_of_call r t c.call choosing.call) o)

-- what follows from what a level that ends at `e` gives in all: of the whole text, or of the call of which it is a part; where the text
-- is so
abbrev pub After : Reading → List ℕ → ℕ → Task → Account → (Output → Type 0) → Back → Output → Type 0
After r t e task.Whole total whole back o = whole o
After r t e (task.Argument b) total whole back o = ArgumentWaits r t e b back o
After r t e (task.Default b) total whole back o = (e < b.at.end) × back b.at.end (ended_with o)
After r t e (task.Target b at_start) total whole back o = TargetWaits r t e b at_start back o
After r t e (task.First c n) total whole back o = BeginsAscii n o.items × ToldWaits r t e c total back (behind_word n o)
After r t e (task.Told c) total whole back o = ToldWaits r t e c total back o
After r t e (task.Given b at_start) total whole back o = (e < b.at.end) × back b.at.end (after_given at_start o)
After r t e (task.Name h to) total whole back o = NameWaits r t e h to back o
After r t e (task.Value h name) total whole back o = ValueWaits r t e h name back o
After r t e (task.Text b) total whole back o = TextWaits r t e b back o

-- ---- levels

-- The levels, the innermost first, of a text that is read up to `p`: `g`, which was given there, and all that is still read is what is
-- left of the text.
abbrev pub Resumes : Reading → List ℕ → ℕ → Bool → Output → List Level → Account → Type 0
Resumes r t p s g [] total = ⊥
Resumes r t p s g (l ∷ ls) total =
    (xs : List Member) × IsStretchOf r.mode t p l.end xs
    × After r t l.end l.task total (λ o. (ls ≡ []) × (total.left ≡ o)) (λ q o. Resumes r t q (starts t q) o ls total)
    (then_output (just (items l.out)) (then_output g (given_from r s t p xs)))

-- what follows from what the innermost of the levels gives in all
abbrev pub Ends : Reading → List ℕ → ℕ → Task → List Level → Output → Account → Type 0
Ends r t e k ls o total = After r t e k total (λ x. (ls ≡ []) × (total.left ≡ x)) (λ q x. Resumes r t q (starts t q) x ls total) o
