-- A page of two parts is expanded part by part.
use Rattle.std.proofs.Common.{arith, ◌≡◌, ℕ, ◌+◌, Bool, true, false, None, List, [], ◌∷◌, ◌++◌, length, map, refl, sym, ap, ap₂, ◌∙◌, subst}
use Rattle.wt_span.specs.declared.form.Mode.TheVariants.{Page}
use Rattle.wt_span.specs.Lexemes.{words}
use Rattle.wt_span.specs.Items.{Item}
use Rattle.wt_span.specs.Origins.{OuterCall, Span}
use Rattle.wt_span.specs.Braces.{Member, lexeme, call, members, reduced}
use Rattle.wt_expand.specs.Work.{Pages, entered}
use Rattle.wt_expand.specs.Expansion.{Output, then_output, Reading, joined, outputs_of, text_members, page_reading, text_given, page_work}
use Rattle.wt_expand.specs.PageCalls.{Stretch, numbered, outer_calls, text_spans, all_stretches, page_stretches, expanded_page}
use Rattle.wt_part_laws.specs.Apart.{given_from, AreReadApart, stretches_from, AreAlike}
use Rattle.wt_part_laws.specs.Expanded.{moved_stretch, GivesAnywhere, BeginsPlain, AreParts, ExpandsBoth}
use Rattle.wt_part_laws.proofs.ApartStretches.{same_self, gives_both}
use Rattle.wt_part_laws.proofs.MovedCalls.{all_moved, numbered_moved, outers_moved, spans_moved}

-- ---- where no call begins a text, it makes no difference whether a line does

members_plain : (r : Reading) (at : ℕ) (s t : Bool) (bs : List ℕ) (ms : List Member) → BeginsPlain ms
    → all_stretches r at s bs (members ms) ≡ all_stretches r at t bs (members ms)
members_plain r at s t bs [] p = refl
members_plain r at s t bs (lexeme w ∷ ms) p = refl
members_plain r at s t bs (call k inside ∷ ms) p = absurd p

outputs_plain : (r : Reading) (s t : Bool) (bs : List ℕ) (ms : List Member) → BeginsPlain ms → outputs_of r s bs (members ms) ≡ outputs_of r t bs (members ms)
outputs_plain r s t bs [] p = refl
outputs_plain r s t bs (lexeme w ∷ ms) p = refl
outputs_plain r s t bs (call k inside ∷ ms) p = absurd p

text_plain : (r : Reading) (at : ℕ) (s t : Bool) (bs : List ℕ) → BeginsPlain (reduced (words r.mode bs))
    → all_stretches r at s bs (text_members r.mode bs) ≡ all_stretches r at t bs (text_members r.mode bs)
unfolding text_members
text_plain r at s t bs p = members_plain r at s t bs (reduced (words r.mode bs)) p

given_plain : (r : Reading) (s t : Bool) (bs : List ℕ) → BeginsPlain (reduced (words r.mode bs)) → given_from r s bs ≡ given_from r t bs
unfolding text_members
given_plain r s t bs p = ap joined (outputs_plain r s t bs (reduced (words r.mode bs)) p)

pub plain_anywhere : (pages : Pages) (bs : List ℕ) → BeginsPlain (reduced (words Page bs)) → GivesAnywhere pages bs
plain_anywhere pages bs p =
    let r : Reading = page_reading pages in
    record {
      outputs = given_plain r false true bs p;
      alike = λ at.
          subst (AreAlike (stretches_from r at false bs)) (text_plain r at false true bs p) (same_self (stretches_from r at false bs));
    }

-- ---- where a text gives the same

given_line : (pages : Pages) (line : Bool) (bs : List ℕ) → GivesAnywhere pages bs → given_from (page_reading pages) line bs ≡ given_from (page_reading pages) true bs
given_line pages true bs h = refl
given_line pages false bs h = h.outputs

alike_line : (pages : Pages) (at : ℕ) (line : Bool) (bs : List ℕ) → GivesAnywhere pages bs
    → AreAlike (stretches_from (page_reading pages) at line bs) (stretches_from (page_reading pages) at true bs)
alike_line pages at true bs h = same_self (stretches_from (page_reading pages) at true bs)
alike_line pages at false bs h = h.alike at

-- so of two such texts side by side
pub both_anywhere : (pages : Pages) (bs cs : List ℕ) → AreReadApart Page bs cs → GivesAnywhere pages bs → GivesAnywhere pages cs → GivesAnywhere pages (bs ++ cs)
both_anywhere pages bs cs h a b =
    let r : Reading = page_reading pages in
    let line : (f t : Bool) → given_from r f cs ≡ given_from r t cs = λ f t. given_line pages f cs b ∙ sym (given_line pages t cs b) in
    record {
      outputs =
          let f = gives_both r 0 false bs cs h in
          let t = gives_both r 0 true bs cs h in
          f.outputs ∙ ap₂ then_output a.outputs (line f.line t.line) ∙ sym t.outputs;
      alike = λ at.
          let f = gives_both r at false bs cs h in
          let t = gives_both r at true bs cs h in
          let first = a.alike at in
          let was = alike_line pages (at + length bs) f.line cs b in
          let now = alike_line pages (at + length bs) t.line cs b in
          let count : length (outer_calls (stretches_from r at false bs)) ≡ length (outer_calls (stretches_from r at true bs)) =
          ap (λ (cs : List OuterCall). length cs) first.outers in
          record {
            items = λ k.
                f.items k
                ∙ ap₂ (λ (xs : List Item) (n : ℕ). xs ++ numbered (k + n) (stretches_from r (at + length bs) f.line cs)) (first.items k) count
                ∙ ap (λ (xs : List Item). numbered k (stretches_from r at true bs) ++ xs)
                (was.items (k + length (outer_calls (stretches_from r at true bs)))
                ∙ sym (now.items (k + length (outer_calls (stretches_from r at true bs)))))
                ∙ sym (t.items k);
            outers = f.outers ∙ ap₂ (λ (os ps : List OuterCall). os ++ ps) first.outers (was.outers ∙ sym now.outers) ∙ sym t.outers;
            texts = f.texts ∙ ap₂ (λ (os ps : List Span). os ++ ps) first.texts (was.texts ∙ sym now.texts) ∙ sym t.texts;
          };
    }

-- ---- the page

stretches_are : (pages : Pages) (bs : List ℕ) → page_stretches pages bs ≡ all_stretches (page_reading pages) 0 true bs (text_members Page bs)
unfolding page_stretches
stretches_are pages bs = refl

-- the second one, where it begins in the page
later_so : (pages : Pages) (bs cs : List ℕ) (line : Bool) → GivesAnywhere pages cs
    → AreAlike (stretches_from (page_reading pages) (0 + length bs) line cs) (map (moved_stretch (length bs)) (page_stretches pages cs))
later_so pages bs cs line h =
    let r : Reading = page_reading pages in
    let z : 0 + length bs ≡ length bs + 0 = omega arith in
    let moved : stretches_from r (0 + length bs) true cs ≡ map (moved_stretch (length bs)) (page_stretches pages cs) =
    ap (λ (i : ℕ). all_stretches r i true cs (text_members Page cs)) z
    ∙ all_moved r (length bs) 0 true cs (text_members Page cs)
    ∙ ap (map (moved_stretch (length bs))) (sym (stretches_are pages cs)) in
    subst (AreAlike (stretches_from r (0 + length bs) line cs)) moved (alike_line pages (0 + length bs) line cs h)

work_so : (pages : Pages) (bs cs : List ℕ) → AreParts pages bs cs → page_work pages (bs ++ cs) ≡ page_work pages bs ++ (text_given (page_reading pages) cs).work
unfolding page_work
work_so pages bs cs h =
    let r : Reading = page_reading pages in
    let b = gives_both r 0 true bs cs h.read in
    ap (λ (o : Output). entered None ∷ o.work) b.outputs
    ∙ ap (λ (o : Output). entered None ∷ ((given_from r true bs).work ++ o.work)) (given_line pages b.line cs h.anywhere)

-- its items, where so many calls come before it
pub items_both : (pages : Pages) (bs cs : List ℕ) (k : ℕ) → AreParts pages bs cs
    → numbered k (page_stretches pages (bs ++ cs))
    ≡ numbered k (page_stretches pages bs) ++ numbered (k + length (outer_calls (page_stretches pages bs))) (page_stretches pages cs)
items_both pages bs cs k h =
    let r : Reading = page_reading pages in
    let b = gives_both r 0 true bs cs h.read in
    let later = later_so pages bs cs b.line h.anywhere in
    let ss : List Stretch = page_stretches pages bs in
    let ts : List Stretch = page_stretches pages cs in
    ap (numbered k) (stretches_are pages (bs ++ cs))
    ∙ b.items k
    ∙ ap (λ (us : List Stretch). numbered k us ++ numbered (k + length (outer_calls us)) (stretches_from r (0 + length bs) b.line cs)) (sym (stretches_are pages bs))
    ∙ ap (λ ys. numbered k ss ++ ys)
    (later.items (k + length (outer_calls ss)) ∙ numbered_moved (k + length (outer_calls ss)) (length bs) ts)

pub expands_both : (pages : Pages) (bs cs : List ℕ) → AreParts pages bs cs → ExpandsBoth pages bs cs
unfolding expanded_page
expands_both pages bs cs h =
    let r : Reading = page_reading pages in
    let b = gives_both r 0 true bs cs h.read in
    let later = later_so pages bs cs b.line h.anywhere in
    let ss : List Stretch = page_stretches pages bs in
    let ts : List Stretch = page_stretches pages cs in
    let k : ℕ = length (outer_calls ss) in
    let z : 0 + k ≡ k = omega arith in
    let first : stretches_from r 0 true bs ≡ ss = sym (stretches_are pages bs) in
    record {
      items = items_both pages bs cs 0 h ∙ ap (λ (i : ℕ). numbered 0 ss ++ numbered i ts) z;
      outer_calls =
          ap outer_calls (stretches_are pages (bs ++ cs))
          ∙ b.outers
          ∙ ap₂ (λ (os ps : List OuterCall). os ++ ps) (ap outer_calls first) (later.outers ∙ outers_moved (length bs) ts);
      text_calls =
          ap text_spans (stretches_are pages (bs ++ cs))
          ∙ b.texts
          ∙ ap₂ (λ (os ps : List Span). os ++ ps) (ap text_spans first) (later.texts ∙ spans_moved (length bs) ts);
      work = work_so pages bs cs h;
    }
