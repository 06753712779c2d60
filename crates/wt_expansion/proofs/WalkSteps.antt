-- A walk over a stretch of the page, step by step.
use Rattle.std.proofs.Common.{◌≡◌, ℕ, ◌+◌, ◌-◌, ◌<◌, ◌≤◌, Bool, Option, List, [], ◌∷◌, ◌++◌, Ok, drop, refl, sym, ap, ◌∙◌, subst, arith, append_assoc, append-nil}
use Rattle.std.specs.Prelude.{slice_range, slice_index}
use Rattle.std.proofs.lemmas.List.{drop-drop, get_or-drop}
use Rattle.wt_span.specs.declared.form.Mode.TheVariants as mode
use Rattle.wt_span.specs.declared.form.LexKind.{LexKind}
use Rattle.wt_span.specs.Bytes.{is_break}
use Rattle.wt_span.specs.Braces.{Member, lexeme, call, members, width, width_of_all}
use Rattle.wt_expand.specs.Work.{Pages, Entry}
use Rattle.wt_expand.specs.Expansion.{Output, Reading, then_output, joined, lexeme_items, output_of, outputs_of}
use Rattle.wt_expand.specs.PageCalls.{Stretch, own, stretches_of}
use Rattle.wt_transclusion.specs.declared.cursor.Next.TheVariants as next
use Rattle.wt_transclusion.specs.declared.read.Braces.{Braces}
use Rattle.wt_transclusion.specs.declared.refusal.ExpandRefusal.{ExpandRefusal}
use Rattle.wt_transclusion.specs.declared.refusal.ExpandRefusal.TheVariants as answer
use Rattle.wt_transclusion.specs.declared.store.Store.{Store}
use Rattle.wt_transclusion.specs.Cursors.{starts}
use Rattle.wt_transclusion.specs.Steps.{IsStretchOf, AnswersNext, given_from}
use Rattle.wt_transclusion.specs.Stores.{IsStore}
use Rattle.wt_transclusion.proofs.StretchCuts.{stretch_front, stretch_back}
use Rattle.wt_template_stack.specs.declared.reader.Reader.{Reader}
use Rattle.wt_template_stack.specs.Ledgers.{Ledger, Comes, Refuses, ledger}
use Rattle.wt_template_stack.specs.Measures.{bytes_left}
use Rattle.wt_template_stack.specs.Readers.{IsReading}
use Rattle.wt_template_stack.proofs.CallLaws.{call_is}
use Rattle.wt_template_stack.proofs.LedgerLaws.{comes_none, comes_then, comes_before, comes_refused, refused_before}
use Rattle.wt_template_stack.proofs.StepLaws.{stretch_read}
use Rattle.wt_expansion.specs.declared.found.Collected.{Collected}
use Rattle.wt_expansion.specs.Made.{AreAlike}
use Rattle.wt_expansion.specs.Walks.{at_page, Adds, Works, Walked, Going, AnswersStep, IsCallNext, call_stretches_at, call_work}
use Rattle.wt_expansion.proofs.FoundLaws.{adds_none, adds_then}
use Rattle.wt_expansion.proofs.WalkLaws.{alike_same, alike_then, alike_append, strs, strs_cons, leads_alike}

pub works_none : (pages : Pages) (t : List ℕ) (met : List (List ℕ)) (spent : ℕ) (answered : Option (List (List ℕ))) (store : Store) (w v : List Entry)
    → IsStore pages met store → w ≡ v → Works pages t (ledger spent met answered) w store spent answered v
works_none pages t met spent answered store w v s e = record {
  met = met;
  stored = s;
  comes = subst (λ es. Comes pages t (ledger spent met answered) es (ledger spent met answered) v) (sym e) (comes_none pages t (ledger spent met answered) v);
}

-- ---- bytes of a lexeme

pub chunk_step : (pages : Pages) (t : List ℕ) (met : List (List ℕ)) (spent : ℕ) (answered : Option (List (List ℕ))) (p : ℕ) (s : Bool) (end : ℕ)
    (xs : List Member)
    (kind : LexKind) (to : ℕ) (old new : Collected) (store : Store) → IsStretchOf mode.Page t p end xs → AnswersNext mode.Page t p end xs (next.Chunk kind to)
    → IsStore pages met store → Adds old new p (own (lexeme_items mode.Page kind (slice_range t p to)) ∷ []) to
    → AnswersStep pages t (ledger spent met answered) (strs (at_page pages) s t p xs)
    (given_from (at_page pages) s t p xs).work p end old new store spent answered (Ok to)
chunk_step pages t met spent answered p s end xs kind to old new store st (low, within, taken) stored a =
    let r = at_page pages in
    let z : p + (to - p) ≡ to = omega (arith, low) in
    let alike = leads_alike kind (to - p) xs taken.left taken.leads r s t p st.full in
    let moved = subst (λ q. AreAlike (own (lexeme_items mode.Page kind (slice_range t p to)) ∷ strs r (starts t q) t q taken.left) (strs r s t p xs)) z
    alike in (
      omega (arith, low),
      record {
        left = taken.left;
        stretch = taken.stretch;
        done = own (lexeme_items mode.Page kind (slice_range t p to)) ∷ [];
        alike = moved;
        adds = a;
        works = works_none pages t met spent answered store (given_from r s t p xs).work (given_from r (starts t to) t to taken.left).work stored
            (ap (λ (o : Output). o.work) (taken.gives r s));
      },
    )

-- ---- a call

-- a call stands next, and others behind it
pub record CallThere (t : List ℕ) (p end : ℕ) (xs : List Member) (b : Braces) (reader : Reader) (s : Bool) : Type 0 where
  pub here : IsCallNext t b reader s
  pub at_is : here.is.at ≡ p
  pub after : List Member
  pub xs_is : xs ≡ call here.is.braces here.is.inside ∷ after
  pub stretch : IsStretchOf mode.Page t b.at.end end after

pub call_there : (t : List ℕ) (p end : ℕ) (s : Bool) (xs : List Member) (reader : Reader) (b : Braces) → IsReading mode.Page t reader p s
    → IsStretchOf mode.Page t p end xs → AnswersNext mode.Page t p end xs (next.Call b) → CallThere t p end xs b reader s
call_there t p end s xs reader b reading st a =
    let k = a.0.braces in
    let ms = a.0.inside in
    let ys = a.0.after in
    let there = subst (IsStretchOf mode.Page t p end) a.0.is st in
    let c = call_is mode.Page t b p end k ms ys a.1 there in
    let q : p + (k + width_of_all ms + k + 0) ≡ b.at.end = let z = c.end_is in omega (arith, z) in
    record {
      here = record {
        is = c;
        reading = reading;
        alone = subst (λ e. IsStretchOf mode.Page t p e (call k ms ∷ [])) q (stretch_front _ _ p end (call k ms ∷ []) ys there);
      };
      at_is = refl;
      after = ys;
      xs_is = a.0.is;
      stretch = subst (λ e. IsStretchOf mode.Page t e end ys) q (stretch_back _ _ p end (call k ms ∷ []) ys there);
    }

given_cons : (r : Reading) (s : Bool) (t : List ℕ) (p : ℕ) (x : Member) (ys : List Member) → 1 ≤ width x
    → given_from r s t p (x ∷ ys) ≡ then_output (output_of r s (drop p t) x) (given_from r (starts t (p + width x)) t (p + width x) ys)
given_cons r s t p x ys l =
    let n : ℕ = width x in
    let z : p + (n - 1) ≡ (p + n) - 1 = omega (arith, l) in
    let b : slice_index (drop p t) (n - 1) ≡ slice_index t ((p + n) - 1) = get_or-drop p t (n - 1) 0 ∙ ap (λ k. slice_index t k) z in
    ap (λ y. then_output (output_of r s (drop p t) x) (joined (outputs_of r (is_break y) (drop n (drop p t)) (members ys)))) b
    ∙ ap (λ bs. then_output (output_of r s (drop p t) x) (joined (outputs_of r (starts t (p + n)) bs (members ys)))) (drop-drop n p t)

-- what a call and what stands behind it give
record Behind (pages : Pages) (t : List ℕ) (p end : ℕ) (s : Bool) (xs : List Member) (b : Braces) (reader : Reader)
    (h : CallThere t p end xs b reader s) : Type 0 where
  pub work : (given_from (at_page pages) s t p xs).work
      ≡ call_work pages t b h.here.is s ++ (given_from (at_page pages) (starts t b.at.end) t b.at.end h.after).work
  pub found : strs (at_page pages) s t p xs ≡ call_stretches_at pages t b h.here.is s ++ strs (at_page pages) (starts t b.at.end) t b.at.end h.after

behind_call : (pages : Pages) (t : List ℕ) (p end : ℕ) (s : Bool) (xs : List Member) (b : Braces) (reader : Reader) (h : CallThere t p end xs b reader s)
    → Behind pages t p end s xs b reader h
behind_call pages t p end s xs b reader h =
    let r = at_page pages in
    let c = h.here.is in
    let x = call c.braces c.inside in
    let two = c.two in
    let one : 1 ≤ width x = omega (arith, two) in
    let q : p + width x ≡ b.at.end = let z = c.end_is in let y = h.at_is in omega (arith, z, y) in
    let at = sym h.at_is in
    record {
      work = ap (λ (ys : List Member). (given_from r s t p ys).work) h.xs_is ∙ ap (λ (o : Output). o.work) (given_cons r s t p x h.after one)
          ∙ ap (λ (n : ℕ). (output_of r s (drop p t) x).work ++ (given_from r (starts t n) t n h.after).work) q
          ∙ ap (λ (n : ℕ). (output_of r s (drop n t) x).work ++ (given_from r (starts t b.at.end) t b.at.end h.after).work) at;
      found = ap (λ (ys : List Member). strs r s t p ys) h.xs_is ∙ strs_cons r s t p x h.after one
          ∙ ap (λ (n : ℕ). stretches_of r p s (drop p t) x ++ strs r (starts t n) t n h.after) q
          ∙ ap (λ (n : ℕ). stretches_of r n s (drop n t) x ++ strs r (starts t b.at.end) t b.at.end h.after) at;
    }

pub call_step : (pages : Pages) (t : List ℕ) (l : Ledger) (p end : ℕ) (s : Bool) (xs : List Member) (b : Braces) (reader : Reader)
    (h : CallThere t p end xs b reader s)
    (old new : Collected) (store : Store) (spent : ℕ) (answered : Option (List (List ℕ)))
    → Walked pages t l (call_stretches_at pages t b h.here.is s) (call_work pages t b h.here.is s) h.here.is.at b.at.end old new store spent answered
    → AnswersStep pages t l (strs (at_page pages) s t p xs) (given_from (at_page pages) s t p xs).work p end old new store spent answered (Ok b.at.end)
call_step pages t l p end s xs b reader h old new store spent answered w =
    let r = at_page pages in
    let e = behind_call pages t p end s xs b reader h in
    let rest = strs r (starts t b.at.end) t b.at.end h.after in
    let more = (given_from r (starts t b.at.end) t b.at.end h.after).work in
    let z = h.here.is.end_is in
    let two = h.here.is.two in
    let y = h.at_is in (
      omega (arith, z, y, two),
      record {
        left = h.after;
        stretch = h.stretch;
        done = w.finds.done;
        alike = alike_then _ _ _ (alike_append w.finds.done (call_stretches_at pages t b h.here.is s) rest rest w.finds.alike (alike_same rest rest refl))
            (alike_same _ _ (sym e.found));
        adds = subst (λ n. Adds old new n w.finds.done b.at.end) h.at_is w.finds.adds;
        works = record {
          met = w.works.met;
          stored = w.works.stored;
          comes = subst (λ es. Comes pages t l es (ledger spent w.works.met answered) more) (sym e.work)
              (comes_before pages t l (ledger spent w.works.met answered) (call_work pages t b h.here.is s) more w.works.comes);
        };
      },
    )

pub call_step_refused : (pages : Pages) (t : List ℕ) (l : Ledger) (p end : ℕ) (s : Bool) (xs : List Member) (b : Braces) (reader : Reader)
    (h : CallThere t p end xs b reader s) (told : Option (List (List ℕ))) (x : ExpandRefusal)
    → Refuses pages t l (call_work pages t b h.here.is s) told x
    → Refuses pages t l (given_from (at_page pages) s t p xs).work told x
call_step_refused pages t l p end s xs b reader h told x f =
    subst (λ es. Refuses pages t l es told x) (sym (behind_call pages t p end s xs b reader h).work)
    (refused_before pages t l (call_work pages t b h.here.is s)
    (given_from (at_page pages) (starts t b.at.end) t b.at.end h.after).work told x f)

-- ---- step after step

pub going_starts : (pages : Pages) (t : List ℕ) (met : List (List ℕ)) (spent : ℕ) (answered : Option (List (List ℕ))) (p end : ℕ) (s : Bool) (xs : List Member)
    (found : Collected) (reader : Reader) (store : Store) → IsReading mode.Page t reader p s → IsStretchOf mode.Page t p end xs → IsStore pages met store
    → Going pages t (ledger spent met answered) (strs (at_page pages) s t p xs)
    (given_from (at_page pages) s t p xs).work p end found found reader store spent answered
going_starts pages t met spent answered p end s xs found reader store reading st stored = record {
  place = p;
  at_start = s;
  reading = reading;
  rest = record {
    left = xs;
    stretch = st;
    done = [];
    alike = alike_same _ _ refl;
    adds = adds_none found p;
    works = works_none pages t met spent answered store _ _ stored refl;
  };
}

-- what is left of a walk that goes on
abbrev pub going_ledger : (pages : Pages) (t : List ℕ) (l : Ledger) (ss : List Stretch) (work : List Entry) (p end : ℕ) (old new : Collected) (reader : Reader)
    (store : Store) (spent : ℕ) (answered : Option (List (List ℕ))) → Going pages t l ss work p end old new reader store spent answered → Ledger
going_ledger pages t l ss work p end old new reader store spent answered g = ledger spent g.rest.works.met answered

pub going_on : (pages : Pages) (t : List ℕ) (l : Ledger) (ss : List Stretch) (work : List Entry) (p end : ℕ) (old mid new : Collected) (reader later : Reader)
    (store after : Store) (spent now : ℕ) (answered told : Option (List (List ℕ))) (to : ℕ)
    → (g : Going pages t l ss work p end old mid reader store spent answered)
    → AnswersStep pages t (ledger spent g.rest.works.met answered) (strs (at_page pages) g.at_start t g.place g.rest.left)
    (given_from (at_page pages) g.at_start t g.place g.rest.left).work g.place end mid new after now told (Ok to)
    → IsReading mode.Page t later to (starts t to) → Going pages t l ss work p end old new later after now told
going_on pages t l ss work p end old mid new reader later store after spent now answered told to g (low, f) reading =
    let r = at_page pages in
    let rest = strs r (starts t to) t to f.left in
    record {
      place = to;
      at_start = starts t to;
      reading = reading;
      rest = record {
        left = f.left;
        stretch = f.stretch;
        done = g.rest.done ++ f.done;
        alike = alike_then _ _ _ (alike_same _ _ (append_assoc g.rest.done f.done rest))
            (alike_then _ _ _ (alike_append g.rest.done g.rest.done (f.done ++ rest) (strs r g.at_start t g.place g.rest.left) (alike_same _ _ refl) f.alike)
            g.rest.alike);
        adds = adds_then old mid new p g.rest.done f.done g.place to g.rest.adds f.adds;
        works = record {
          met = f.works.met;
          stored = f.works.stored;
          comes = comes_then pages t l (ledger spent g.rest.works.met answered) (ledger now f.works.met told) work
              (given_from r g.at_start t g.place g.rest.left).work (given_from r (starts t to) t to f.left).work g.rest.works.comes f.works.comes;
        };
      };
    }

pub going_refused : (pages : Pages) (t : List ℕ) (l : Ledger) (ss : List Stretch) (work : List Entry) (p end : ℕ) (old mid : Collected) (reader : Reader)
    (store : Store) (spent : ℕ) (answered told : Option (List (List ℕ))) (x : ExpandRefusal)
    → (g : Going pages t l ss work p end old mid reader store spent answered)
    → Refuses pages t (ledger spent g.rest.works.met answered)
    (given_from (at_page pages) g.at_start t g.place g.rest.left).work told x
    → Refuses pages t l work told x
going_refused pages t l ss work p end old mid reader store spent answered told x g h =
    let left = (given_from (at_page pages) g.at_start t g.place g.rest.left).work in
    comes_refused pages t l (ledger spent g.rest.works.met answered) work left told x g.rest.works.comes h

-- nothing is left where a stretch ends
none_left : (t : List ℕ) (p end : ℕ) (xs : List Member) → IsStretchOf mode.Page t p end xs → end ≤ p → xs ≡ []
none_left t p end [] s l = refl
none_left t p end (lexeme (kind, n) ∷ xs) s l = absurd (let z = s.width in let f = s.full.0 in omega (arith, z, f, l))
none_left t p end (call k ms ∷ xs) s l = absurd (let z = s.width in let f = s.full.0.0 in omega (arith, z, f, l))

pub going_ends : (pages : Pages) (t : List ℕ) (l : Ledger) (ss : List Stretch) (work : List Entry) (p end : ℕ) (old new : Collected) (reader : Reader)
    (store : Store) (spent : ℕ) (answered : Option (List (List ℕ))) → (g : Going pages t l ss work p end old new reader store spent answered)
    → (reader.cursor.at < end → bytes_left reader ≡ 0)
    → Walked pages t l ss work p end old new store spent answered
going_ends pages t l ss work p end old new reader store spent answered g gone =
    let r = at_page pages in
    let at = g.reading.at.at_is in
    let le = stretch_read mode.Page t reader g.place g.at_start end g.rest.left g.reading g.rest.stretch gone in
    let none = none_left t g.place end g.rest.left g.rest.stretch (omega (arith, le, at)) in
    let empty = subst (λ xs. IsStretchOf mode.Page t g.place end xs) none g.rest.stretch in
    let z : g.place ≡ end = let y = empty.width in omega (arith, y) in
    record {
      finds = record {
        done = g.rest.done;
        alike = alike_then _ _ _ (alike_same _ _
            (sym (ap (λ (xs : List Member). g.rest.done ++ strs r g.at_start t g.place xs) none ∙ append-nil g.rest.done))) g.rest.alike;
        adds = subst (λ n. Adds old new p g.rest.done n) z g.rest.adds;
      };
      works = record {
        met = g.rest.works.met;
        stored = g.rest.works.stored;
        comes = subst (λ xs. Comes pages t l work (ledger spent g.rest.works.met answered) (given_from r g.at_start t g.place xs).work) none g.rest.works.comes;
      };
    }
