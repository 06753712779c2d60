-- What is on the page for the items of a part is the part, wherever its calls are counted among those of the page.
use Rattle.std.proofs.Common.{◌≡◌, ℕ, zero, suc, ◌+◌, ◌-◌, ◌<◌, Bool, true, false, Option, Some, None, List, [], ◌∷◌, ◌++◌, length, map, take, drop, refl, sym, ap, ap₂, ◌∙◌, subst, arith, append-nil}
use Rattle.std.specs.Prelude.{slice_get, slice_index, not, if◌then◌else◌}
use Rattle.std.proofs.lemmas.Bool.Decides.{nat_tests}
use Rattle.wt_span.specs.declared.form.ItemForm.TheVariants as form
use Rattle.wt_span.specs.declared.form.Mode.{Mode}
use Rattle.wt_span.specs.declared.form.Mode.TheVariants as mode
use Rattle.wt_span.specs.declared.form.LexKind.{LexKind}
use Rattle.wt_span.specs.Bytes.{is_break}
use Rattle.wt_span.specs.Items.{Item, char, whole, source, sources, call_of, items_by}
use Rattle.wt_span.specs.Origins.{OuterCall, same_call}
use Rattle.wt_span.specs.Cuts.{source_of_call, text_by}
use Rattle.wt_span.specs.Braces.{Member, Members, lexeme, call, none, more, width, width_of_all}
use Rattle.wt_braces.specs.PartMembers.{part_members}
use Rattle.wt_annotated.specs.Seams.{last_of, text_from}
use Rattle.wt_annotated.proofs.Seams.{text_append_from}
use Rattle.wt_expand.specs.PageItems.{form_of}
use Rattle.wt_expand.specs.Targets.{Called, argument, choice, function, page, text, called}
use Rattle.wt_expand.specs.Work.{Pages}
use Rattle.wt_expand.specs.Expansion.{Output, chars, is_removed, lexeme_items, PartOutput, part_outputs, target_part, Reading, front_braces, back_braces, called_output, outputs_of, text_members, page_reading}
use Rattle.wt_expand.specs.PageCalls.{Stretch, own, outer, text_call, call_stretches, stretches_of, all_stretches, from_call, outer_items, numbered, outer_calls, page_stretches, expanded_page}
use Rattle.wt_expand.specs.Stretches.{page_bytes}
use Rattle.wt_expand.proofs.PiecePlaces.{text_behind, behind_page, behind_same, AllFrom, form_from, chars_from}
use Rattle.wt_expand.proofs.Given.{stretches_join}
use Rattle.wt_part_laws.specs.Expanded.{moved_call, part_items}
use Rattle.wt_text_edit_laws.specs.BlockSpots.{BlockSpot, spots_source}
use Rattle.wt_text_edit_laws.specs.TextBlocks.{source_of}
use Rattle.wt_called_edit_laws.specs.PartTexts.{AreSourcesAt, AreBlockTexts, AreTextsOfPage}
use Rattle.wt_called_edit_laws.specs.Parts.{AreCalled, calls_to, calls_past, called_outers}
use Rattle.wt_called_edit_laws.proofs.Parts.Retyped.{is_by_parts}

-- ---- the page's own items come from no call

abbrev pub OwnPage : List Stretch → Type 0
OwnPage [] = Unit {0}
OwnPage (own xs ∷ ss) = AllFrom None xs × OwnPage ss
OwnPage (outer c xs ∷ ss) = OwnPage ss
OwnPage (text_call s ∷ ss) = OwnPage ss

own_append : (ss ts : List Stretch) → OwnPage ss → OwnPage ts → OwnPage (ss ++ ts)
own_append [] ts f g = g
own_append (own xs ∷ ss) ts f g = (f.0, own_append ss ts f.1 g)
own_append (outer c xs ∷ ss) ts f g = own_append ss ts f g
own_append (text_call s ∷ ss) ts f g = own_append ss ts f g

pub lexeme_own : (m : Mode) (kind : LexKind) (bs : List ℕ) → AllFrom None (lexeme_items m kind bs)
lexeme_own m kind bs = by (is_removed m kind)
  where
    by : (t : Bool) → AllFrom None (if t then [] else items_by (form_of kind bs) None bs)
    by true = tt
    by false = form_from (form_of kind bs) None bs

own_call : (c : Called) (r : Reading) (start : Bool) (at k : ℕ) (source : List ℕ) (ms : Members) (ps : List PartOutput)
    (os : List Output) (inside : List Stretch) → OwnPage inside
    → OwnPage (call_stretches c at k source ms (called_output c r start k source ps os).items inside)
own_call argument r start at k source ms ps os inside h = tt
own_call (choice f n) r start at k source ms ps os inside h = tt
own_call function r start at k source ms ps os inside h = ((refl, tt), tt)
own_call (page t) r start at k source ms ps os inside h = tt
own_call text r start at k source ms ps os inside h = (
  chars_from None (front_braces k source),
  own_append inside (own (chars (back_braces k source)) ∷ []) h (chars_from None (back_braces k source), tt),
)

mutual
  pub own_one : (r : Reading) (at : ℕ) (start : Bool) (bs : List ℕ) (m : Member) → OwnPage (stretches_of r at start bs m)
  own_one r at start bs (lexeme (kind, n)) = (lexeme_own r.mode kind (take n bs), tt)
  own_one r at start bs (call k ms) =
      let os = outputs_of r false (drop k bs) ms in
      let ps = part_outputs (part_members 0 ms) os in
      let source = take (k + width_of_all ms + k) bs in
      own_call (called k source (target_part ps).items) r start at k source ms ps os
      (all_stretches r (at + k) false (drop k bs) ms) (own_all r (at + k) false (drop k bs) ms)

  pub own_all : (r : Reading) (at : ℕ) (start : Bool) (bs : List ℕ) (ms : Members) → OwnPage (all_stretches r at start bs ms)
  own_all r at start bs none = tt
  own_all r at start bs (more m ms) =
      let next = is_break (slice_index bs (width m - 1)) in
      own_append (stretches_of r at start bs m) (all_stretches r (at + width m) next (drop (width m) bs) ms)
      (own_one r at start bs m) (own_all r (at + width m) next (drop (width m) bs) ms)

pub own_page : (pages : Pages) (bs : List ℕ) → OwnPage (page_stretches pages bs)
unfolding page_stretches
own_page pages bs = own_all (page_reading pages) 0 true bs (text_members mode.Page bs)

-- ---- what is on the page for items of one origin

pub own_text : (calls : List OuterCall) (o : Option ℕ) (xs : List Item) → AllFrom None xs → text_from calls o xs ≡ sources xs
own_text calls o [] h = refl
own_text calls o (x ∷ xs) h = ap₂ (λ us vs. us ++ vs) (behind_page calls o x h.0) (own_text calls (call_of x) xs h.1)

pub same_text : (calls : List OuterCall) (o : Option ℕ) (k : ℕ) (xs : List Item) → o ≡ Some k → AllFrom (Some k) xs → text_from calls o xs ≡ []
same_text calls o k [] e h = refl
same_text calls o k (x ∷ xs) e h = ap₂ (λ us vs. us ++ vs) (behind_same calls o k x e h.0) (same_text calls (call_of x) k xs h.0 h.1)

-- from the page, or from one of so many calls
abbrev pub IsBelow : ℕ → Option ℕ → Type 0
IsBelow k None = Unit {0}
IsBelow k (Some j) = j < k

pub below_other : (k : ℕ) (o : Option ℕ) → IsBelow k o → same_call o (Some k) ≡ false
below_other k None h = refl
below_other k (Some j) h = grind (arith, nat_tests)

pub behind_new : (calls : List OuterCall) (o : Option ℕ) (k : ℕ) (x : Item) → same_call o (Some k) ≡ false → call_of x ≡ Some k
    → text_behind calls o x ≡ source_of_call (slice_get calls k)
behind_new calls o k x f e =
    ap (λ p. if not (same_call o p) then text_by calls p (source x) else []) e ∙ ap (λ t. if not t then source_of_call (slice_get calls k) else []) f

pub call_text : (calls : List OuterCall) (o : Option ℕ) (k : ℕ) (z : Item) (zs : List Item) → IsBelow k o → AllFrom (Some k) (z ∷ zs)
    → text_from calls o (z ∷ zs) ≡ source_of_call (slice_get calls k)
call_text calls o k z zs b h =
    ap₂ (λ us vs. us ++ vs) (behind_new calls o k z (below_other k o b) h.0) (same_text calls (call_of z) k zs h.0 h.1)
    ∙ append-nil (source_of_call (slice_get calls k))

pub called_from : (k : ℕ) (xs : List Item) → AllFrom (Some k) (map (from_call k) xs)
called_from k [] = tt
called_from k (char o b ∷ xs) = (refl, called_from k xs)
called_from k (whole f o bs ∷ xs) = (refl, called_from k xs)

pub outer_text : (calls : List OuterCall) (o : Option ℕ) (k : ℕ) (c : OuterCall) (xs : List Item) → IsBelow k o
    → text_from calls o (outer_items k c xs) ≡ source_of_call (slice_get calls k)
outer_text calls o k c [] b = call_text calls o k (whole form.EmptyCall (Some k) c.source) [] b (refl, tt)
outer_text calls o k c (x ∷ xs) b = call_text calls o k (from_call k x) (map (from_call k) xs) b (called_from k (x ∷ xs))

-- ---- the last item

pub below_own : (k : ℕ) (o : Option ℕ) (xs : List Item) → IsBelow k o → AllFrom None xs → IsBelow k (last_of o xs)
below_own k o [] b h = b
below_own k o (x ∷ xs) b h = below_own k (call_of x) xs (subst (IsBelow k) (sym h.0) tt) h.1

pub last_same : (k : ℕ) (o : Option ℕ) (xs : List Item) → o ≡ Some k → AllFrom (Some k) xs → last_of o xs ≡ Some k
last_same k o [] e h = e
last_same k o (x ∷ xs) e h = last_same k (call_of x) xs h.0 h.1

below_call : (k : ℕ) (o : Option ℕ) (z : Item) (zs : List Item) → AllFrom (Some k) (z ∷ zs) → IsBelow (suc k) (last_of o (z ∷ zs))
below_call k o z zs h =
    let it_is : k < suc k = omega arith in
    subst (IsBelow (suc k)) (sym (last_same k (call_of z) zs h.0 h.1)) it_is

pub below_outer : (k : ℕ) (o : Option ℕ) (c : OuterCall) (xs : List Item) → IsBelow (suc k) (last_of o (outer_items k c xs))
below_outer k o c [] = below_call k o (whole form.EmptyCall (Some k) c.source) [] (refl, tt)
below_outer k o c (x ∷ xs) = below_call k o (from_call k x) (map (from_call k) xs) (called_from k (x ∷ xs))

-- ---- stretch after stretch

pub joined : (calls : List OuterCall) (o : Option ℕ) (k : ℕ) (ss : List Stretch) → IsBelow k o → OwnPage ss → AreSourcesAt calls k (outer_calls ss)
    → text_from calls o (numbered k ss) ≡ page_bytes ss
joined calls o k [] b h s = refl
joined calls o k (own xs ∷ ss) b h s =
    text_append_from calls o xs (numbered k ss)
    ∙ ap₂ (λ us vs. us ++ vs) (own_text calls o xs h.0) (joined calls (last_of o xs) k ss (below_own k o xs b h.0) h.1 s)
joined calls o k (outer c xs ∷ ss) b h s =
    let zs : List Item = outer_items k c xs in
    text_append_from calls o zs (numbered (suc k) ss)
    ∙ ap₂ (λ us vs. us ++ vs) (outer_text calls o k c xs b ∙ s.0) (joined calls (last_of o zs) (suc k) ss (below_outer k o c xs) h s.1)
joined calls o k (text_call s ∷ ss) b h u = joined calls o k ss b h u

pub part_text : (pages : Pages) (calls : List OuterCall) (k : ℕ) (bs : List ℕ) → AreSourcesAt calls k (expanded_page pages bs).outer
    → text_from calls None (part_items pages k bs) ≡ bs
unfolding expanded_page
part_text pages calls k bs s = joined calls None k (page_stretches pages bs) tt (own_page pages bs) s ∙ stretches_join pages bs

-- ---- the calls of the blocks among those of the page

source_moved : (d : ℕ) (calls : List OuterCall) (k : ℕ) → source_of_call (slice_get (map (moved_call d) calls) k) ≡ source_of_call (slice_get calls k)
source_moved d [] k = refl
source_moved d (c ∷ calls) zero = refl
source_moved d (c ∷ calls) (suc k) = source_moved d calls k

pub sources_moved : (d : ℕ) (calls : List OuterCall) (k : ℕ) (cs : List OuterCall) → AreSourcesAt calls k cs → AreSourcesAt (map (moved_call d) calls) k cs
sources_moved d calls k [] h = tt
sources_moved d calls k (c ∷ cs) h = (source_moved d calls k ∙ h.0, sources_moved d calls (suc k) cs h.1)

one_past : (f : OuterCall) (calls : List OuterCall) (k : ℕ) (cs : List OuterCall) → AreSourcesAt calls k cs → AreSourcesAt (f ∷ calls) (suc k) cs
one_past f calls k [] h = tt
one_past f calls k (c ∷ cs) h = (h.0, one_past f calls (suc k) cs h.1)

pub sources_past : (front calls : List OuterCall) (k : ℕ) (cs : List OuterCall) → AreSourcesAt calls k cs → AreSourcesAt (front ++ calls) (length front + k) cs
sources_past [] calls k cs h = let e : k ≡ 0 + k = omega arith in subst (λ i. AreSourcesAt calls i cs) e h
sources_past (f ∷ front) calls k cs h =
    let e : suc (length front + k) ≡ suc (length front) + k = omega arith in
    subst (λ i. AreSourcesAt (f ∷ front ++ calls) i cs) e (one_past f (front ++ calls) (length front + k) cs (sources_past front calls k cs h))

pub sources_first : (cs calls : List OuterCall) → AreSourcesAt (cs ++ calls) 0 cs
sources_first [] calls = tt
sources_first (c ∷ cs) calls = (refl, one_past c (cs ++ calls) 0 cs (sources_first cs calls))

-- those of each block are these of the page
abbrev pub AreNamed : Pages → List OuterCall → ℕ → List BlockSpot → Type 0
AreNamed pages calls k [] = Unit {0}
AreNamed pages calls k (s ∷ ss) =
    AreSourcesAt calls (calls_to pages k s) (expanded_page pages (source_of s.block s.text)).outer × AreNamed pages calls (calls_past pages k s) ss

-- of calls among which these are, from this number on
named_from : (pages : Pages) (calls : List OuterCall) (k : ℕ) (ss : List BlockSpot) (behind : List ℕ)
    → ((j : ℕ) (cs : List OuterCall) → AreSourcesAt (called_outers pages ss behind) j cs → AreSourcesAt calls (k + j) cs) → AreNamed pages calls k ss
named_from pages calls k [] behind f = tt
named_from pages calls k (s ∷ ss) behind f =
    let q : List ℕ = source_of s.block s.text in
    let before : List OuterCall = (expanded_page pages s.before).outer in
    let mine : List OuterCall = (expanded_page pages q).outer in
    let rest : List OuterCall = called_outers pages ss behind in
    let a : ℕ = length s.before in
    let b : ℕ = length q in
    let here : AreSourcesAt (called_outers pages (s ∷ ss) behind) (length before + 0) mine =
    sources_past before (map (moved_call a) (mine ++ map (moved_call b) rest)) 0 mine
    (sources_moved a (mine ++ map (moved_call b) rest) 0 mine (sources_first mine (map (moved_call b) rest))) in
    let at : k + (length before + 0) ≡ k + length before = omega arith in (
      subst (λ i. AreSourcesAt calls i mine) at (f (length before + 0) mine here),
      named_from pages calls (calls_past pages k s) ss behind
          (λ j cs h.
          let there : AreSourcesAt (called_outers pages (s ∷ ss) behind) (length before + (length mine + j)) cs =
          sources_past before (map (moved_call a) (mine ++ map (moved_call b) rest)) (length mine + j) cs
          (sources_moved a (mine ++ map (moved_call b) rest) (length mine + j) cs
          (sources_past mine (map (moved_call b) rest) j cs (sources_moved b rest j cs h))) in
          let to : k + (length before + (length mine + j)) ≡ ((k + length before) + length mine) + j = omega arith in
          subst (λ i. AreSourcesAt calls i cs) to (f (length before + (length mine + j)) cs there)),
    )

named_texts : (pages : Pages) (calls : List OuterCall) (k : ℕ) (ss : List BlockSpot) → AreNamed pages calls k ss → AreBlockTexts pages calls k ss
named_texts pages calls k [] h = tt
named_texts pages calls k (s ∷ ss) h =
    (part_text pages calls (calls_to pages k s) (source_of s.block s.text) h.0, named_texts pages calls (calls_past pages k s) ss h.1)

pub block_calls : (pages : Pages) (ss : List BlockSpot) (behind : List ℕ) → AreCalled pages ss behind
    → AreNamed pages (expanded_page pages (spots_source ss behind)).outer 0 ss
block_calls pages ss behind h =
    subst (λ calls. AreNamed pages calls 0 ss) (sym (is_by_parts pages ss behind h).outers)
    (named_from pages (called_outers pages ss behind) 0 ss behind (λ j cs h. let e : j ≡ 0 + j = omega arith in subst (λ i. AreSourcesAt (called_outers pages ss behind) i cs) e h))

pub block_texts : (pages : Pages) (ss : List BlockSpot) (behind : List ℕ) → AreCalled pages ss behind → AreTextsOfPage pages ss behind
block_texts pages ss behind h =
    named_texts pages (expanded_page pages (spots_source ss behind)).outer 0 ss (block_calls pages ss behind h)
