-- A closing run takes as often as it can.
use Rattle.std.proofs.Common.{◌≡◌, ℕ, zero, suc, ◌+◌, ◌-◌, ◌<◌, ◌≤◌, Bool, true, false, List, [], ◌∷◌, ◌++◌, refl, sym, ap, ◌∙◌, subst, inl, inr, arith}
use Rattle.std.specs.Prelude.{◌⊎◌, ◌==◌, if◌then◌else◌}
use Rattle.std.proofs.lemmas.Bool.Decides.{nat_tests}
use Rattle.wt_span.specs.declared.form.LexKind.TheVariants.{Closes}
use Rattle.wt_span.specs.Braces.{Member, lexeme, rewritten, again, taken, left_over, closed_by}
use Rattle.wt_braces.specs.declared.matching.OpenRun.{OpenRun}
use Rattle.wt_braces.specs.Matched.{Matched, call_closed, CanClose, Stands, matched}
use Rattle.wt_braces.specs.Leading.{Leads}
use Rattle.wt_braces.proofs.Shapes.{NoRun, Behind, nearest}
use Rattle.wt_braces.proofs.Takings.{taking, rewritten_at, stuck_free, stuck_few, Taken, takes, nothing, behind, read_behind}

pub stuck_again : (f : ℕ) (x : ℕ × List Member) → rewritten x ≡ x → again f rewritten x ≡ x
stuck_again zero x e = refl
stuck_again (suc f) x e = ap (again f rewritten) e ∙ stuck_again f x e

-- two braces or more are taken, or nothing changes
pub record Lowered (c : ℕ) (before : List Member) : Type 0 where
  pub left : ℕ
  pub after : List Member
  pub is : rewritten (c, before) ≡ (left, after)
  pub less : left + 2 ≤ c

pub lowered : (c : ℕ) (before : List Member) → (rewritten (c, before) ≡ (c, before)) ⊎ Lowered c before
lowered zero before = inl (stuck_few 0 before (omega arith))
lowered (suc zero) before = inl (stuck_few 1 before (omega arith))
lowered (suc (suc c)) before = by_nearest (nearest before)
  where
    by_nearest : NoRun before ⊎ Behind before → (rewritten (suc (suc c), before) ≡ (suc (suc c), before)) ⊎ Lowered (suc (suc c)) before
    by_nearest (inl free) = inl (stuck_free (suc (suc c)) before free)
    by_nearest (inr b) =
        let n = suc (suc c) in
        let s = taking b.braces n b.two (omega arith) in
        inr (record {
          left = n - taken b.braces n;
          after = _;
          is = ap (λ bs. rewritten (n, bs)) b.is ∙ rewritten_at n b.braces b.inside b.rest b.free b.two (omega arith);
          less = omega (arith, s.two, s.closing);
        })

fuel_by : (bound f c : ℕ) (before : List Member) → f ≤ bound → c ≤ f → (rewritten (c, before) ≡ (c, before)) ⊎ Lowered c before
    → again f rewritten (c, before) ≡ again c rewritten (c, before)
fuel_by bound f c before le ge (inl e) = stuck_again f (c, before) e ∙ sym (stuck_again c (c, before) e)
fuel_by zero f c before le ge (inr l) = absurd (omega (arith, l.less))
fuel_by (suc bound) zero c before le ge (inr l) = absurd (omega (arith, l.less))
fuel_by (suc bound) (suc f) zero before le ge (inr l) = absurd (omega (arith, l.less))
fuel_by (suc bound) (suc f) (suc c) before le ge (inr l) =
    let more = l.less in
    ap (again f rewritten) l.is ∙ fuel_by bound f l.left l.after (omega arith) (omega arith) (lowered l.left l.after)
    ∙ sym (fuel_by bound c l.left l.after (omega arith) (omega arith) (lowered l.left l.after)) ∙ sym (ap (again c rewritten) l.is)

pub fuel : (f c : ℕ) (before : List Member) → c ≤ f → again f rewritten (c, before) ≡ again c rewritten (c, before)
fuel f c before le = fuel_by f f c before (omega arith) le (lowered c before)

-- one taking more
pub step : (c k : ℕ) (before : List Member) → 2 ≤ k → k ≤ c → (rewritten (c, before)).0 ≡ c - k
    → again (c - k) rewritten (c - k, (rewritten (c, before)).1) ≡ again c rewritten (c, before)
step zero k before two le e = absurd (omega arith)
step (suc c) k before two le e =
    let x = rewritten (suc c, before) in
    sym (fuel c (suc c - k) x.1 (omega arith)) ∙ ap (λ i. again c rewritten (i, x.1)) (sym e)

-- what is read, with one more run
abbrev with_nearest : OpenRun → Matched → Matched
with_nearest r m = record { runs = r ∷ m.runs; signs = m.signs; links = m.links; closed = m.closed }

taken_of : (at : ℕ) (before : List Member) (m old : Matched) (place c : ℕ) (r : OpenRun) → Stands at before old place
    → old ≡ with_nearest r m → 2 ≤ c → Taken at before m r place c
taken_of at before m old place c r s e more =
    let P : Matched → Type 0 = λ x. Stands at before x place in
    takes at before (with_nearest r m) place c r m.runs (subst P e s) refl more

pub leads_more : (at : ℕ) (goal : ℕ × List Member) (m old new : Matched) (place end k : ℕ) (r : OpenRun)
    → Leads at goal old place (end - place) → old ≡ with_nearest r m → 2 ≤ end - place → k ≡ taken r.left (end - place)
    → new ≡ call_closed r k (place + k) m → Leads at goal new (place + k) (end - (place + k))
leads_more at goal m old new place end k r h e more is made =
    let c : ℕ = end - place in
    let t = taken_of at h.before m old place c r h.stands e more in
    let b = (rewritten (c, h.before)).1 in
    let k1 = taken r.left c in
    let less : c - k1 ≡ end - (place + k1) = omega arith in
    let P : ℕ → Type 0 = λ i. Leads at goal new (place + i) (end - (place + i)) in
    let Q : Matched → Type 0 = λ x. Stands at b x (place + k1) in
    let R : ℕ → Type 0 = λ i. again i rewritten (i, b) ≡ goal in
    let eq : call_closed r k1 (place + k1) m ≡ new = ap (λ i. call_closed r i (place + i) m) (sym is) ∙ sym made in
    subst P (sym is) (record {
      before = b;
      stands = subst Q eq t.stands;
      same =
          subst R less (step c k1 h.before t.sizes.two t.sizes.closing t.count ∙ h.same);
    })

pub can_take : (at : ℕ) (goal : ℕ × List Member) (m old : Matched) (place end k : ℕ) (r : OpenRun)
    → Leads at goal old place (end - place) → old ≡ with_nearest r m → 2 ≤ end - place → k ≡ taken r.left (end - place)
    → CanClose r k (place + k) m
can_take at goal m old place end k r h e more is =
    let t = taken_of at h.before m old place (end - place) r h.stands e more in
    let P : ℕ → Type 0 = λ i. CanClose r i (place + i) m in subst P (sym is) t.can

pub take_order : (at : ℕ) (goal : ℕ × List Member) (m old : Matched) (place end k : ℕ) (r : OpenRun)
    → Leads at goal old place (end - place) → old ≡ with_nearest r m → 2 ≤ end - place → k ≡ taken r.left (end - place) → place + k ≤ end
take_order at goal m old place end k r h e more is =
    let t = taken_of at h.before m old place (end - place) r h.stands e more in omega (arith, is, t.sizes.closing)

-- what is left of the closing run is text
closed_left : (at c place : ℕ) (before : List Member) (m : Matched) → Stands at before m place → Stands at (left_over Closes c ++ before) m (place + c)
closed_left at c place before m s = by_test (c == 0) refl
  where
    by_test : (t : Bool) → (c == 0) ≡ t → Stands at ((if t then [] else lexeme (Closes, c) ∷ []) ++ before) m (place + c)
    by_test true e = let z : c ≡ 0 = grind (arith, nat_tests) in record { read = s.read; ends = omega (arith, z, s.ends) }
    by_test false e = record { read = s.read ∙ sym (nothing (matched at before)); ends = ap (λ i. i + c) s.ends }

finish : (at n c place : ℕ) (first before : List Member) (m : Matched) → Stands at before m place
    → again n rewritten (n, first) ≡ (c, before) → Stands at (closed_by n first) m (place + c)
finish at n c place first before m s e =
    let P : ℕ × List Member → Type 0 = λ x. Stands at (left_over Closes x.0 ++ x.1) m (place + c) in subst P (sym e) (closed_left at c place before m s)

pub leads_few : (at n c place : ℕ) (first : List Member) (m : Matched) → Leads at (again n rewritten (n, first)) m place c → c < 2
    → Stands at (closed_by n first) m (place + c)
leads_few at n c place first m h few = finish at n c place first h.before m h.stands (sym h.same ∙ stuck_again c (c, h.before) (stuck_few c h.before few))

run_there : (at : ℕ) (before : List Member) (m : Matched) (place : ℕ) → Stands at before m place → m.runs ≡ [] → Behind before → ⊥
run_there at before m place s e b =
    let is : (matched at before).runs ≡ (behind at b.inside b.braces b.rest).runs = ap (λ x. (matched at x).runs) b.is
    ∙ ap (λ y. y.runs) (read_behind at b.inside b.braces b.rest b.free b.two) in
    let z : [] ≡ (behind at b.inside b.braces b.rest).runs = sym e ∙ ap (λ y. y.runs) s.read ∙ is in cc

pub leads_none : (at n c place : ℕ) (first : List Member) (m : Matched) → Leads at (again n rewritten (n, first)) m place c
    → m.runs ≡ [] → Stands at (closed_by n first) m (place + c)
leads_none at n c place first m h e = by_nearest (nearest h.before)
  where
    by_nearest : NoRun h.before ⊎ Behind h.before → Stands at (closed_by n first) m (place + c)
    by_nearest (inl free) = finish at n c place first h.before m h.stands (sym h.same ∙ stuck_again c (c, h.before) (stuck_free c h.before free))
    by_nearest (inr b) = absurd (run_there at h.before m place h.stands e b)

to_end : (at place end : ℕ) (bs : List Member) (m : Matched) → place ≤ end → Stands at bs m (place + (end - place)) → Stands at bs m end
to_end at place end bs m le s = let e : place + (end - place) ≡ end = omega arith in subst (Stands at bs m) e s

pub done_few : (at n place end : ℕ) (first : List Member) (m : Matched) → Leads at (again n rewritten (n, first)) m place
    (end - place) → place ≤ end → end - place < 2 → Stands at (closed_by n first) m end
done_few at n place end first m h le few = to_end at place end (closed_by n first) m le (leads_few at n (end - place) place first m h few)

pub done_none : (at n place end : ℕ) (first : List Member) (m new : Matched) → Leads at (again n rewritten (n, first)) m place
    (end - place) → place ≤ end → m.runs ≡ [] → new ≡ m → Stands at (closed_by n first) new end
done_none at n place end first m new h le e same =
    let P : Matched → Type 0 = λ x. Stands at (closed_by n first) x end in
    subst P (sym same) (to_end at place end (closed_by n first) m le (leads_none at n (end - place) place first m h e))

-- at the start nothing is taken
pub leads_first : (at n place : ℕ) (before : List Member) (m : Matched) → Stands at before m place → Leads at (again n rewritten (n, before)) m place n
leads_first at n place before m s = record { before = before; stands = s; same = refl }
