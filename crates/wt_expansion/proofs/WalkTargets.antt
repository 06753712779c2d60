-- The target of a call of the page: what it says, and what the call is by it.
use Rattle.std.proofs.Common.{◌≡◌, ℕ, ◌+◌, Bool, false, Option, Some, None, option_map, List, [], ◌∷◌, ◌++◌, length, drop, refl, sym, ap, ◌∙◌, subst, append_assoc}
use Rattle.std.specs.Prelude.{slice_get}
use Rattle.std.proofs.lemmas.Option.{slice_get-map}
use Rattle.wt_span.specs.declared.form.Mode.TheVariants as mode
use Rattle.wt_span.specs.Items.{Item, sources}
use Rattle.wt_span.specs.Braces.{Member, PartAt, listed, members}
use Rattle.wt_names.specs.declared.title.Title.{Title}
use Rattle.wt_braces.specs.PartMembers.{PartMembers, joined, part_members, placed}
use Rattle.wt_braces.specs.Views.{part_of}
use Rattle.wt_braces.specs.declared.call.PartAt.{PartAt as PartOf}
use Rattle.wt_expand.specs.Targets.{page, called_by, is_function, title_of_target}
use Rattle.wt_expand.specs.Work.{Pages, Entry, begun, ended}
use Rattle.wt_expand.specs.Expansion.{Output, Reading, PartOutput, target_part, later_parts, parts_work, values_from, with_break}
use Rattle.wt_expand.specs.PageCalls.{Stretch, outer, outer_at, numbered}
use Rattle.wt_transclusion.specs.declared.read.Braces.{Braces}
use Rattle.wt_transclusion.specs.Parts.{part_given, parts_given}
use Rattle.wt_transclusion.specs.Steps.{IsStretchOf, given_from}
use Rattle.wt_transclusion.specs.Stretch.{AreFull}
use Rattle.wt_transclusion.proofs.PartLaws.{call_parts}
use Rattle.wt_transclusion.proofs.StretchLaws.{full_members, members_listed}
use Rattle.wt_template_stack.specs.Calls.{ArePartsAt, IsCallOf, source_of, parts_of_call, first_end}
use Rattle.wt_template_stack.specs.Runs.{page_called}
use Rattle.wt_template_stack.proofs.CallLaws.{joined_width, some_is}
use Rattle.wt_expansion.specs.Made.{AreAlike}
use Rattle.wt_expansion.specs.Walks.{at_page, call_stretches_at, call_work, page_stretch, page_work_at, target_members, target_output}
use Rattle.wt_expansion.proofs.WalkCalls.{call_parts_at, what, called_title, stretches_is, output_is, output_by}
use Rattle.wt_expansion.proofs.WalkLaws.{strs, given_all, title_numbered}

-- ---- the first part

-- where the target stands
pub record TargetStands (t : List ℕ) (b : Braces) (c : IsCallOf mode.Page t b) (part : PartOf) : Type 0 where
  pub from_is : part.at.start ≡ c.at + c.braces
  pub to_is : part.at.end ≡ first_end (c.at + c.braces) (part_members 0 c.inside)
  pub stretch : IsStretchOf mode.Page t part.at.start part.at.end (target_members (part_members 0 c.inside))

abbrev StandsAt : List ℕ → ℕ → List PartMembers → PartAt → Type 0
StandsAt t at ps part = (part.from ≡ at) × (part.to ≡ first_end at ps) × IsStretchOf mode.Page t at (first_end at ps) (target_members ps)

stands_at : (t : List ℕ) (most at : ℕ) (ps : List PartMembers) (part : PartAt) → slice_get (placed at ps) 0 ≡ Some part → ArePartsAt mode.Page t most at ps
    → StandsAt t at ps part
stands_at t most at [] part e h = absurd (let z : None ≡ Some part = e in cc)
stands_at t most at (p ∷ ps) part e h =
    let is = some_is _ part e in (ap (λ x. x.from) (sym is), ap (λ x. x.to) (sym is) ∙ joined_width at p.name p.value, h.0.all)

pub target_stands : (t : List ℕ) (b : Braces) (c : IsCallOf mode.Page t b) (part : PartOf) → slice_get b.parts.now 0 ≡ Some part → TargetStands t b c part
target_stands t b c part e =
    let ps = part_members 0 c.inside in
    let at = c.at + c.braces in
    let h = stands_at t b.at.end at ps (part_of part)
    (ap (λ xs. slice_get xs 0) (sym c.parts_are) ∙ slice_get-map part_of b.parts.now 0 ∙ ap (option_map part_of) e) c.parts_stand in
    record {
      from_is = h.0;
      to_is = h.1;
      stretch = subst (λ q. IsStretchOf mode.Page t part.at.start q (target_members ps)) (sym h.1)
          (subst (λ q. IsStretchOf mode.Page t q (first_end at ps) (target_members ps)) (sym h.0) h.2);
    }

-- ---- what it gives

pub full_inside : (t : List ℕ) (b : Braces) (c : IsCallOf mode.Page t b) → AreFull c.inside
full_inside t b c = subst AreFull (members_listed c.inside) (full_members (listed c.inside) c.stretch.full)

pub parts_are : (pages : Pages) (t : List ℕ) (b : Braces) (c : IsCallOf mode.Page t b) → call_parts_at pages t b c ≡ parts_of_call (at_page pages) t b c
parts_are pages t b c = call_parts (at_page pages) t c.at c.braces c.inside (full_inside t b c)

all_of_part : (r : Reading) (s : Bool) (t : List ℕ) (at : ℕ) (name : Option (List Member × ℕ)) (value : List Member)
    → (part_given r s t at name value).all ≡ given_from r s t at (joined name value)
all_of_part r s t at None value = refl
all_of_part r s t at (Some x) value = refl

target_of_parts : (r : Reading) (s : Bool) (t : List ℕ) (at : ℕ) (ps : List PartMembers)
    → target_part (parts_given r s t at ps) ≡ given_from r s t at (target_members ps)
target_of_parts r s t at [] = refl
target_of_parts r s t at (p ∷ ps) = all_of_part r s t at p.name p.value

pub target_is : (pages : Pages) (t : List ℕ) (b : Braces) (c : IsCallOf mode.Page t b) → target_part (call_parts_at pages t b c) ≡ target_output pages t b c
target_is pages t b c =
    ap target_part (parts_are pages t b c) ∙ target_of_parts (at_page pages) false t (c.at + c.braces) (part_members 0 c.inside)

-- the title that what was found of the target says
pub title_read : (pages : Pages) (t : List ℕ) (b : Braces) (c : IsCallOf mode.Page t b) (done : List Stretch) (k : ℕ)
    → AreAlike done (strs (at_page pages) false t (c.at + c.braces) (target_members (part_members 0 c.inside)))
    → title_of_target (numbered k done) ≡ title_of_target (target_output pages t b c).items
title_read pages t b c done k alike =
    let r = at_page pages in
    let at : ℕ = c.at + c.braces in
    let xs = target_members (part_members 0 c.inside) in
    ap title_of_target (alike.items k) ∙ title_numbered k (strs r false t at xs)
    ∙ ap title_of_target (given_all r at false (drop at t) (members xs))

pub is_called : (pages : Pages) (t : List ℕ) (b : Braces) (c : IsCallOf mode.Page t b) (o : Option Title) → b.argument ≡ false
    → is_function (source_of mode.Page t b c) ≡ false → o ≡ title_of_target (target_output pages t b c).items → what pages t b c ≡ called_by o
is_called pages t b c o a f e =
    called_title c.braces (source_of mode.Page t b c) (target_part (call_parts_at pages t b c)).items (sym c.kind_is ∙ a) f
    ∙ ap (λ (x : Output). called_by (title_of_target x.items)) (target_is pages t b c) ∙ ap called_by (sym e)

-- ---- the call of a page

items_are : (pages : Pages) (t : List ℕ) (b : Braces) (c : IsCallOf mode.Page t b) (s : Bool) (title : Title)
    → (output_by pages t b c s (page title)).items ≡ (page_called (at_page pages) t b c s title).items
items_are pages t b c s title =
    ap (λ (ps : List PartOutput). with_break s ((at_page pages).template title (values_from 1 (later_parts ps))).items) (parts_are pages t b c)

pub page_found : (pages : Pages) (t : List ℕ) (b : Braces) (c : IsCallOf mode.Page t b) (s : Bool) (title : Title) → what pages t b c ≡ page title
    → call_stretches_at pages t b c s ≡ page_stretch pages t b c s title
page_found pages t b c s title e =
    stretches_is pages t b c s (page title) e
    ∙ ap (λ (xs : List Item). outer (outer_at c.at c.braces (source_of mode.Page t b c) c.inside (page title)) xs ∷ []) (items_are pages t b c s title)

-- the work of its parts and of its page, and that it ends
abbrev ends_with : Pages → Bool → Title → List PartOutput → List Entry
ends_with pages s title ps =
    let o = (at_page pages).template title (values_from 1 (later_parts ps)) in
    begun ∷ (parts_work (later_parts ps) ++ (o.work ++ ended (length (sources (with_break s o.items))) ∷ []))

work_ends : (pages : Pages) (t : List ℕ) (b : Braces) (c : IsCallOf mode.Page t b) (s : Bool) (title : Title)
    → (output_by pages t b c s (page title)).work ≡ (target_part (call_parts_at pages t b c)).work ++ ends_with pages s title (call_parts_at pages t b c)
work_ends pages t b c s title =
    let ps = call_parts_at pages t b c in
    let o = (at_page pages).template title (values_from 1 (later_parts ps)) in
    ap (λ es. (target_part ps).work ++ (begun ∷ es))
    (append_assoc (parts_work (later_parts ps)) o.work (ended (length (sources (with_break s o.items))) ∷ []))

pub page_work_is : (pages : Pages) (t : List ℕ) (b : Braces) (c : IsCallOf mode.Page t b) (s : Bool) (title : Title) → what pages t b c ≡ page title
    → call_work pages t b c s ≡ (target_output pages t b c).work ++ page_work_at pages t b c s title
page_work_is pages t b c s title e =
    ap (λ (o : Output). o.work) (output_is pages t b c s (page title) e) ∙ work_ends pages t b c s title
    ∙ ap (λ (o : Output). o.work ++ ends_with pages s title (call_parts_at pages t b c)) (target_is pages t b c)
    ∙ ap (λ (ps : List PartOutput). (target_output pages t b c).work ++ ends_with pages s title ps) (parts_are pages t b c)
