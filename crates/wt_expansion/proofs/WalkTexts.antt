-- A call whose target is read as text is, and which is text or the call of a page.
use Rattle.std.proofs.Common.{◌≡◌, ℕ, ◌+◌, ◌-◌, ◌≤◌, Bool, false, Option, Some, None, List, [], ◌∷◌, ◌++◌, Ok, Err, length, take, drop, refl, sym, ap, ◌∙◌, subst, arith, append_assoc, append-nil}
use Rattle.std.specs.Prelude.{Result, slice_range}
use Rattle.std.proofs.lemmas.List.{drop-drop, take-take, drop-take, length-take-le, length-drop, drop_at}
use Rattle.wt_span.specs.declared.form.Mode.TheVariants as mode
use Rattle.wt_span.specs.declared.form.ItemForm.TheVariants as form
use Rattle.wt_span.specs.declared.form.Piece.{Piece}
use Rattle.wt_span.specs.Items.{items_by, items}
use Rattle.wt_span.specs.Origins.{Span, span_of}
use Rattle.wt_span.specs.Braces.{listed, members, width_of_all}
use Rattle.wt_names.specs.declared.title.Title.{Title}
use Rattle.wt_braces.specs.PartMembers.{PartMembers, joined, rejoined, part_members, width_of}
use Rattle.wt_braces.specs.declared.call.PartAt.{PartAt as PartOf}
use Rattle.wt_braces.proofs.Rejoins.{parts_join}
use Rattle.wt_expand.specs.Targets.{page, text, called_by, title_of_target}
use Rattle.wt_expand.specs.Work.{Pages, Entry}
use Rattle.wt_expand.specs.Expansion.{Output, Reading, then_output, chars, front_braces, back_braces}
use Rattle.wt_expand.specs.Expansion as outputs
use Rattle.wt_expand.specs.PageCalls.{own, text_call, all_stretches}
use Rattle.wt_transclusion.specs.declared.read.Braces.{Braces}
use Rattle.wt_transclusion.specs.declared.refusal.ExpandRefusal.{ExpandRefusal}
use Rattle.wt_transclusion.specs.declared.store.Store.{Store}
use Rattle.wt_transclusion.specs.Cursors.{starts}
use Rattle.wt_transclusion.specs.Parts.{start_after}
use Rattle.wt_transclusion.specs.Steps.{IsStretchOf, given_from}
use Rattle.wt_transclusion.specs.Stretch.{AllFull}
use Rattle.wt_transclusion.proofs.PartLaws.{outs, outs_append}
use Rattle.wt_transclusion.proofs.StretchLaws.{full_front, members_listed}
use Rattle.wt_template_stack.specs.Calls.{IsCallOf, source_of, first_end, members_behind}
use Rattle.wt_template_stack.specs.Ledgers.{Ledger, Refuses, ledger}
use Rattle.wt_template_stack.proofs.CallLaws.{behind_same, behind_stands}
use Rattle.wt_template_stack.proofs.LedgerLaws.{comes_then, comes_before, comes_refused, refused_before}
use Rattle.wt_template_stack.proofs.StepLaws.{joined_append}
use Rattle.wt_expansion.specs.declared.found.Collected.{Collected}
use Rattle.wt_expansion.specs.Walks.{at_page, Adds, Works, Walked, AnswersWalk, TargetRead, call_stretches_at, call_work, page_stretch, page_work_at, target_members, target_output, front_stretches, behind_stretches, behind_work}
use Rattle.wt_expansion.proofs.FoundLaws.{adds_then, adds_marked}
use Rattle.wt_expansion.proofs.WalkCalls.{what, stretches_is, output_is}
use Rattle.wt_expansion.proofs.WalkLaws.{strs, strs_append, alike_same, alike_then, alike_append, title_given}
use Rattle.wt_expansion.proofs.WalkTargets.{TargetStands, title_read, page_found, page_work_is}

-- ---- the members of a call are those of its target and those behind it

target_and_behind : (ps : List PartMembers) → rejoined ps ≡ target_members ps ++ members_behind ps
target_and_behind [] = refl
target_and_behind (p ∷ []) = sym (append-nil (joined p.name p.value))
target_and_behind (p ∷ q ∷ ps) = refl

target_end : (at : ℕ) (ps : List PartMembers) → at + width_of (target_members ps) ≡ first_end at ps
target_end at [] = omega arith
target_end at (p ∷ ps) = refl

-- a `|` is the same at the start of a line
behind_strs : (r : Reading) (t : List ℕ) (a b : Bool) (q : ℕ) (ps : List PartMembers) → strs r a t q (members_behind ps) ≡ strs r b t q (members_behind ps)
behind_strs r t a b q [] = refl
behind_strs r t a b q (p ∷ []) = refl
behind_strs r t a b q (p ∷ x ∷ ps) = refl

inside_is : (t : List ℕ) (b : Braces) (c : IsCallOf mode.Page t b)
    → listed c.inside ≡ target_members (part_members 0 c.inside) ++ members_behind (part_members 0 c.inside)
inside_is t b c = sym (parts_join 0 c.inside) ∙ target_and_behind (part_members 0 c.inside)

target_full : (t : List ℕ) (b : Braces) (c : IsCallOf mode.Page t b) → AllFull (target_members (part_members 0 c.inside))
target_full t b c =
    let ps = part_members 0 c.inside in
    full_front (target_members ps) (members_behind ps) (subst AllFull (inside_is t b c) c.stretch.full)

-- ---- what is found of a call that is text

inside_found : (pages : Pages) (t : List ℕ) (b : Braces) (c : IsCallOf mode.Page t b)
    → all_stretches (at_page pages) (c.at + c.braces) false (drop c.braces (drop c.at t)) c.inside
    ≡ strs (at_page pages) false t (c.at + c.braces) (target_members (part_members 0 c.inside))
    ++ (let q = first_end (c.at + c.braces) (part_members 0 c.inside) in
    strs (at_page pages) (starts t q) t q (members_behind (part_members 0 c.inside)))
inside_found pages t b c =
    let r = at_page pages in
    let at : ℕ = c.at + c.braces in
    let ps = part_members 0 c.inside in
    let xs = target_members ps in
    let ys = members_behind ps in
    let q = first_end at ps in
    ap (λ bs. all_stretches r at false bs c.inside) (drop-drop c.braces c.at t)
    ∙ ap (all_stretches r at false (drop at t)) (sym (members_listed c.inside))
    ∙ ap (λ zs. strs r false t at zs) (inside_is t b c)
    ∙ strs_append r false t at xs ys (target_full t b c)
    ∙ ap (λ k. strs r false t at xs ++ strs r (start_after false t at xs) t k ys) (target_end at ps)
    ∙ ap (λ zs. strs r false t at xs ++ zs) (behind_strs r t (start_after false t at xs) (starts t q) q ps)

text_found : (pages : Pages) (t : List ℕ) (b : Braces) (c : IsCallOf mode.Page t b) (s : Bool) → what pages t b c ≡ text
    → call_stretches_at pages t b c s ≡ front_stretches pages t b c ++ behind_stretches pages t b c
text_found pages t b c s e =
    let r = at_page pages in
    let at : ℕ = c.at + c.braces in
    let ps = part_members 0 c.inside in
    let q = first_end at ps in
    let src = source_of mode.Page t b c in
    let back = own (chars (back_braces c.braces src)) ∷ [] in
    let wide : ℕ = c.braces + width_of_all c.inside + c.braces in
    let target = strs r false t at (target_members ps) in
    stretches_is pages t b c s text e
    ∙ ap (λ ss. text_call (c.at, c.at + wide) ∷ (own (chars (front_braces c.braces src)) ∷ (ss ++ back))) (inside_found pages t b c)
    ∙ ap (λ ss. text_call (c.at, c.at + wide) ∷ (own (chars (front_braces c.braces src)) ∷ ss))
    (append_assoc target (strs r (starts t q) t q (members_behind ps)) back)

-- ---- its work

inside_given : (pages : Pages) (t : List ℕ) (b : Braces) (c : IsCallOf mode.Page t b)
    → outputs.joined (outs (at_page pages) false t (c.at + c.braces) (listed c.inside))
    ≡ then_output (target_output pages t b c) (let q = first_end (c.at + c.braces) (part_members 0 c.inside) in
    given_from (at_page pages) (starts t q) t q (members_behind (part_members 0 c.inside)))
inside_given pages t b c =
    let r = at_page pages in
    let at : ℕ = c.at + c.braces in
    let ps = part_members 0 c.inside in
    let xs = target_members ps in
    let ys = members_behind ps in
    let q = first_end at ps in
    ap (λ zs. outputs.joined (outs r false t at zs)) (inside_is t b c)
    ∙ ap outputs.joined (outs_append r false t at xs ys (target_full t b c))
    ∙ joined_append (outs r false t at xs) (outs r (start_after false t at xs) t (at + width_of_all (members xs)) ys)
    ∙ ap (λ k. then_output (target_output pages t b c) (given_from r (start_after false t at xs) t k ys)) (target_end at ps)
    ∙ ap (then_output (target_output pages t b c)) (behind_same r t (start_after false t at xs) (starts t q) q ps)

text_work : (pages : Pages) (t : List ℕ) (b : Braces) (c : IsCallOf mode.Page t b) (s : Bool) → what pages t b c ≡ text
    → call_work pages t b c s ≡ (target_output pages t b c).work ++ behind_work pages t b c
text_work pages t b c s e =
    let r = at_page pages in
    let at : ℕ = c.at + c.braces in
    ap (λ (o : Output). o.work) (output_is pages t b c s text e)
    ∙ append-nil (outputs.joined (outputs.outputs_of r false (drop c.braces (drop c.at t)) c.inside)).work
    ∙ ap (λ bs. (outputs.joined (outputs.outputs_of r false bs c.inside)).work) (drop-drop c.braces c.at t)
    ∙ ap (λ ms. (outputs.joined (outputs.outputs_of r false (drop at t) ms)).work) (sym (members_listed c.inside))
    ∙ ap (λ (o : Output). o.work) (inside_given pages t b c)

-- ---- braces

pub front_is : (t : List ℕ) (b : Braces) (c : IsCallOf mode.Page t b) (part : PartOf) → TargetStands t b c part
    → slice_range t b.at.start part.at.start ≡ front_braces c.braces (source_of mode.Page t b c)
front_is t b c part h =
    let k = c.braces in
    let w = width_of_all c.inside in
    ap (λ q. take (q - b.at.start) (drop b.at.start t)) h.from_is ∙ ap (λ q. take (c.at + k - q) (drop q t)) c.start_is
    ∙ ap (λ n. take n (drop c.at t)) (let y : c.at + k - c.at ≡ k = omega arith in y) ∙ sym (take-take k (k + w + k) (drop c.at t) (omega arith))

pub back_is : (t : List ℕ) (b : Braces) (c : IsCallOf mode.Page t b) (end : ℕ) → end ≡ c.at + c.braces + width_of_all c.inside → b.at.end ≤ length t
    → slice_range t end b.at.end ≡ back_braces c.braces (source_of mode.Page t b c)
back_is t b c end e fits =
    let k = c.braces in
    let w = width_of_all c.inside in
    let ei = c.end_is in
    let at : end ≡ c.at + (k + w) = omega (arith, e) in
    let len : b.at.end - end ≡ k = omega (arith, e, ei) in
    ap (λ n. take n (drop end t)) len ∙ ap (λ q. take k (drop q t)) at ∙ back_of k (k + w) c.at t (omega (arith, ei, fits))
  where
    back_of : (k n at : ℕ) (t : List ℕ) → at + (n + k) ≤ length t
        → take k (drop (at + n) t) ≡ drop (length (take (n + k) (drop at t)) - k) (take (n + k) (drop at t))
    back_of k n at t l =
        let xs = drop at t in
        let d = length-drop at t in
        let len = length-take-le (n + k) xs (omega (arith, d, l)) in
        let z : n ≡ length (take (n + k) xs) - k = omega (arith, len) in
        ap (take k) (sym (drop-drop n at t)) ∙ sym (drop-take n k xs) ∙ ap (λ j. drop j (take (n + k) xs)) z

-- ---- work that is done in two steps

works_then : (pages : Pages) (t : List ℕ) (l : Ledger) (w v : List Entry) (before store : Store) (now spent : ℕ) (told answered : Option (List (List ℕ)))
    → (f : Works pages t l w before now told []) → Works pages t (ledger now f.met told) v store spent answered []
    → Works pages t l (w ++ v) store spent answered []
works_then pages t l w v before store now spent told answered f g = record {
  met = g.met;
  stored = g.stored;
  comes = comes_then pages t l (ledger now f.met told) (ledger spent g.met answered) (w ++ v) v []
      (comes_before pages t l (ledger now f.met told) w v f.comes) g.comes;
}

refused_then : (pages : Pages) (t : List ℕ) (l : Ledger) (w v : List Entry) (before : Store) (now : ℕ)
    (told answered : Option (List (List ℕ)))
    (x : ExpandRefusal) → (f : Works pages t l w before now told [])
    → Refuses pages t (ledger now f.met told) v answered x
    → Refuses pages t l (w ++ v) answered x
refused_then pages t l w v before now told answered x f h =
    let mid = ledger now f.met told in
    comes_refused pages t l mid (w ++ v) v answered x (comes_before pages t l mid w v f.comes) h

-- ---- the target is read

pub target_done : (pages : Pages) (t : List ℕ) (l : Ledger) (b : Braces) (c : IsCallOf mode.Page t b) (part : PartOf) → TargetStands t b c part
    → (old one two new : Collected) (store : Store) (spent : ℕ) (answered : Option (List (List ℕ))) (rest : List Piece) (title : Option Title)
    → Adds old one c.at (text_call (span_of b.at) ∷ []) c.at
    → Adds one two b.at.start (own (items_by form.Chars None (slice_range t b.at.start part.at.start)) ∷ []) part.at.start
    → Walked pages t l (strs (at_page pages) false t part.at.start (target_members (part_members 0 c.inside)))
    (given_from (at_page pages) false t part.at.start (target_members (part_members 0 c.inside))).work part.at.start part.at.end two new store spent answered
    → rest ≡ drop (length two.pieces.items) new.pieces.items → title ≡ title_of_target (items rest)
    → TargetRead pages t l b c title old new store spent answered
target_done pages t l b c part h old one two new store spent answered rest title called braces walked rest_is title_is =
    let r = at_page pages in
    let at : ℕ = c.at + c.braces in
    let ps = part_members 0 c.inside in
    let xs = target_members ps in
    let src = source_of mode.Page t b c in
    let span : Span = (c.at, c.at + (c.braces + width_of_all c.inside + c.braces)) in
    let front = text_call span ∷ (own (chars (front_braces c.braces src)) ∷ []) in
    let span_is : span_of b.at ≡ span =
    ap (λ (n : ℕ). (n, b.at.end)) c.start_is ∙ ap (λ (n : ℕ). (c.at, n)) c.end_is in
    let first = subst (λ x. Adds old one c.at (text_call x ∷ []) c.at) span_is called in
    let second = subst (λ bs. Adds one two c.at (own (chars bs) ∷ []) at) (front_is t b c part h)
    (subst (λ n. Adds one two c.at (own (chars (slice_range t b.at.start part.at.start)) ∷ []) n) h.from_is
    (subst (λ n. Adds one two n (own (chars (slice_range t b.at.start part.at.start)) ∷ []) part.at.start) c.start_is braces)) in
    let w = subst (λ n. Walked pages t l (strs r false t at xs) (given_from r false t at xs).work at n two new store spent answered) h.to_is
    (subst (λ n. Walked pages t l (strs r false t n xs) (given_from r false t n xs).work n part.at.end two new store spent answered) h.from_is walked) in
    let f = w.finds in
    record {
      title_is = title_is ∙ ap title_of_target (ap items rest_is
          ∙ ap (λ qs. items (drop (length two.pieces.items) qs)) f.adds.pieces_are
          ∙ ap items (drop_at two.pieces.items f.adds.pieces (length two.pieces.items) refl))
          ∙ title_given at (length two.outer.items) f.done f.adds.pieces (first_end at ps) f.adds.give
          ∙ title_read pages t b c f.done (length two.outer.items) f.alike;
      finds = record {
        done = front ++ f.done;
        alike = alike_append front front f.done (strs r false t at xs) (alike_same front front refl) f.alike;
        adds = adds_then old two new c.at front f.done at (first_end at ps)
            (adds_then old one two c.at (text_call span ∷ []) (own (chars (front_braces c.braces src)) ∷ []) c.at at first second) f.adds;
      };
      works = w.works;
    }

-- ---- behind it

-- where the braces at the back begin
pub back_place : (t : List ℕ) (b : Braces) (c : IsCallOf mode.Page t b) (part : PartOf) (end : ℕ) → TargetStands t b c part
    → end ≡ b.at.end - (part.at.start - b.at.start) → end ≡ c.at + c.braces + width_of_all c.inside
back_place t b c part end h e = let x = h.from_is in let y = c.start_is in let z = c.end_is in omega (arith, x, y, z, e)

pub behind_stretch : (t : List ℕ) (b : Braces) (c : IsCallOf mode.Page t b) (part : PartOf) (end : ℕ) → TargetStands t b c part
    → end ≡ c.at + c.braces + width_of_all c.inside → IsStretchOf mode.Page t part.at.end end (members_behind (part_members 0 c.inside))
behind_stretch t b c part end h e =
    let at : ℕ = c.at + c.braces in
    let ps = part_members 0 c.inside in
    let whole = behind_stands mode.Page t at (at + width_of_all c.inside) ps
    (subst (IsStretchOf mode.Page t at (at + width_of_all c.inside)) (sym (parts_join 0 c.inside)) c.stretch) in
    subst (λ q. IsStretchOf mode.Page t q end (members_behind ps)) (sym h.to_is)
    (subst (λ q. IsStretchOf mode.Page t (first_end at ps) q (members_behind ps)) (sym e) whole)

pub behind_walked : (pages : Pages) (t : List ℕ) (l : Ledger) (b : Braces) (c : IsCallOf mode.Page t b) (part : PartOf) (end : ℕ)
    → TargetStands t b c part → end ≡ c.at + c.braces + width_of_all c.inside → b.at.end ≤ length t
    → (old mid new : Collected) (store : Store) (spent : ℕ) (answered : Option (List (List ℕ)))
    → Walked pages t l (strs (at_page pages) (starts t part.at.end) t part.at.end (members_behind (part_members 0 c.inside)))
    (given_from (at_page pages) (starts t part.at.end) t part.at.end (members_behind (part_members 0 c.inside))).work part.at.end end old mid store spent
    answered
    → Adds mid new end (own (items_by form.Chars None (slice_range t end b.at.end)) ∷ []) b.at.end
    → Walked pages t l (behind_stretches pages t b c) (behind_work pages t b c) (first_end (c.at + c.braces) (part_members 0 c.inside)) b.at.end
    old new store spent answered
behind_walked pages t l b c part end h e fits old mid new store spent answered walked braces =
    let r = at_page pages in
    let q : ℕ = first_end (c.at + c.braces) (part_members 0 c.inside) in
    let ys = members_behind (part_members 0 c.inside) in
    let back = own (chars (back_braces c.braces (source_of mode.Page t b c))) ∷ [] in
    let last = subst (λ bs. Adds mid new end (own (chars bs) ∷ []) b.at.end) (back_is t b c end e fits) braces in
    let w = subst (λ n. Walked pages t l (strs r (starts t n) t n ys) (given_from r (starts t n) t n ys).work n end old mid store spent answered) h.to_is
    walked in
    record {
      finds = record {
        done = w.finds.done ++ back;
        alike = alike_append w.finds.done (strs r (starts t q) t q ys) back back w.finds.alike (alike_same back back refl);
        adds = adds_then old mid new q w.finds.done back end b.at.end w.finds.adds last;
      };
      works = w.works;
    }

pub behind_refused : (pages : Pages) (t : List ℕ) (l : Ledger) (b : Braces) (c : IsCallOf mode.Page t b)
    (part : PartOf)
    (told : Option (List (List ℕ))) (x : ExpandRefusal) → TargetStands t b c part
    → Refuses pages t l (given_from (at_page pages) (starts t part.at.end) t part.at.end
    (members_behind (part_members 0 c.inside))).work told x
    → Refuses pages t l (behind_work pages t b c) told x
behind_refused pages t l b c part told x h f =
    subst (λ n. Refuses pages t l (given_from (at_page pages) (starts t n) t n
    (members_behind (part_members 0 c.inside))).work told x) h.to_is f

-- ---- by the title that the target says

-- it is none: the call is text
pub text_walked : (pages : Pages) (t : List ℕ) (l : Ledger) (b : Braces) (c : IsCallOf mode.Page t b) (s : Bool) (old mid new : Collected) (before store : Store)
    (now spent : ℕ) (told answered : Option (List (List ℕ))) (x : Result Unit ExpandRefusal) → what pages t b c ≡ text
    → (f : TargetRead pages t l b c None old mid before now told)
    → AnswersWalk pages t (ledger now f.works.met told) (behind_stretches pages t b c) (behind_work pages t b c)
    (first_end (c.at + c.braces) (part_members 0 c.inside)) b.at.end mid new store spent answered x
    → AnswersWalk pages t l (call_stretches_at pages t b c s) (call_work pages t b c s) c.at b.at.end old new store spent answered x
text_walked pages t l b c s old mid new before store now spent told answered (Ok u) e f g =
    let fronts = front_stretches pages t b c in
    let behind = behind_stretches pages t b c in
    let q : ℕ = first_end (c.at + c.braces) (part_members 0 c.inside) in
    record {
      finds = record {
        done = f.finds.done ++ g.finds.done;
        alike = alike_then _ _ _ (alike_append f.finds.done fronts g.finds.done behind f.finds.alike g.finds.alike)
            (alike_same _ _ (sym (text_found pages t b c s e)));
        adds = adds_then old mid new c.at f.finds.done g.finds.done q b.at.end f.finds.adds g.finds.adds;
      };
      works = subst (λ es. Works pages t l es store spent answered []) (sym (text_work pages t b c s e))
          (works_then pages t l (target_output pages t b c).work (behind_work pages t b c) before store now spent told answered f.works g.works);
    }
text_walked pages t l b c s old mid new before store now spent told answered (Err x) e f g =
    subst (λ es. Refuses pages t l es answered x) (sym (text_work pages t b c s e))
    (refused_then pages t l (target_output pages t b c).work
    (behind_work pages t b c) before now told answered x f.works g)

-- it is that of a page
pub page_walked_on : (pages : Pages) (t : List ℕ) (l : Ledger) (b : Braces) (c : IsCallOf mode.Page t b) (s : Bool) (title : Title)
    (old mid back new : Collected) (before store : Store) (now spent : ℕ) (told answered : Option (List (List ℕ))) (p o u : ℕ) (x : Result Unit ExpandRefusal)
    → what pages t b c ≡ page title → (f : TargetRead pages t l b c (Some title) old mid before now told)
    → p ≡ length old.pieces.items → o ≡ length old.outer.items → u ≡ length old.text_calls.items
    → back.pieces.items ≡ take p mid.pieces.items → back.outer.items ≡ take o mid.outer.items → back.text_calls.items ≡ take u mid.text_calls.items
    → AnswersWalk pages t (ledger now f.works.met told) (page_stretch pages t b c s title) (page_work_at pages t b c s title) c.at b.at.end back new store spent
    answered x
    → AnswersWalk pages t l (call_stretches_at pages t b c s) (call_work pages t b c s) c.at b.at.end old new store spent answered x
page_walked_on pages t l b c s title old mid back new before store now spent told answered p o u (Ok y) e f pn on un pb ob ub g =
    let q : ℕ = first_end (c.at + c.braces) (part_members 0 c.inside) in
    record {
      finds = record {
        done = g.finds.done;
        alike = alike_then _ _ _ g.finds.alike (alike_same _ _ (sym (page_found pages t b c s title e)));
        adds = adds_marked old mid back new p o u c.at f.finds.done q c.at g.finds.done b.at.end pn on un f.finds.adds pb ob ub g.finds.adds;
      };
      works = subst (λ es. Works pages t l es store spent answered []) (sym (page_work_is pages t b c s title e))
          (works_then pages t l (target_output pages t b c).work (page_work_at pages t b c s title) before store now spent told answered f.works g.works);
    }
page_walked_on pages t l b c s title old mid back new before store now spent told answered p o u (Err x) e f pn on un pb ob ub g =
    subst (λ es. Refuses pages t l es answered x) (sym (page_work_is pages t b c s title e))
    (refused_then pages t l (target_output pages t b c).work
    (page_work_at pages t b c s title) before now told answered x f.works g)

-- whatever it is, the work of the target is its first
pub target_refused : (pages : Pages) (t : List ℕ) (l : Ledger) (b : Braces) (c : IsCallOf mode.Page t b)
    (s : Bool)
    (told : Option (List (List ℕ))) (x : ExpandRefusal) (o : Option Title) → what pages t b c ≡ called_by o
    → Refuses pages t l (target_output pages t b c).work told x
    → Refuses pages t l (call_work pages t b c s) told x
target_refused pages t l b c s told x None e h =
    subst (λ es. Refuses pages t l es told x) (sym (text_work pages t b c s e))
    (refused_before pages t l (target_output pages t b c).work (behind_work pages t b c) told x h)
target_refused pages t l b c s told x (Some title) e h =
    subst (λ es. Refuses pages t l es told x) (sym (page_work_is pages t b c s title e))
    (refused_before pages t l (target_output pages t b c).work (page_work_at pages t b c s title) told x h)
