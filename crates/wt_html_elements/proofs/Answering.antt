-- What was fed, and some of a piece more; what is answered.
use Rattle.std.proofs.Common.{◌≡◌, ℕ, ◌+◌, ◌-◌, ◌≤◌, Bool, true, false, Option, Some, None, Result, Ok, Err, List, [], ◌∷◌, ◌++◌, length, append_assoc, length-append, take, drop, refl, sym, ap, ◌∙◌, subst, arith}
use Rattle.std.specs.Prelude.{IfOk, IfErr, OnOk, if◌then◌else◌}
use Rattle.std.specs.Coded.{le_prop}
use Rattle.std.proofs.Math.Logic.{∥∥₁_elim}
use Rattle.std.proofs.Props.{props}
use Rattle.std.proofs.lemmas.List.{take-append-drop, length-take-le}
use Rattle.std.proofs.Math.Seq.{take-add}
use Rattle.wt_html_grammar.specs.declared.why.HtmlWhy.TheVariants.{End}
use Rattle.wt_html_grammar.specs.Grammar.{Front}
use Rattle.wt_html_grammar.specs.Machine.{State, start, first, doctype, inside, less, naming, gap, attribute, named_so, equals, value, valued, slashed, closing, closed, escaping}
use Rattle.wt_html_grammar.specs.Places.{taken, is_accepted}
use Rattle.wt_html_grammar.specs.Markup.{Markup, empty, more, meaning, Stands}
use Rattle.wt_html_grammar.specs.Events.{Building, built}
use Rattle.wt_html_grammar.proofs.Telling.{stands_told}
use Rattle.wt_html_grammar.proofs.Places.{run_err, taken_err, refused, cut_off, well_of, no_front}
use Rattle.wt_html_grammar.proofs.Whole.{front_of}
use Rattle.wt_html_reasons.specs.declared.refusal.Fault.{Fault}
use Rattle.wt_html_reasons.specs.declared.refusal.Fault.TheVariants as faults
use Rattle.wt_html_reasons.specs.declared.refusal.HtmlRefusal.{HtmlRefusal}
use Rattle.wt_html_reasons.specs.declared.refusal.HtmlRefusal.TheVariants as refusals
use Rattle.wt_html_elements.specs.declared.content.Content.{Content}
use Rattle.wt_html_elements.specs.declared.reading.Reading.{Reading}
use Rattle.wt_html_elements.specs.Kept.{IsKept, is_between}
use Rattle.wt_html_elements.specs.Built.{view_content, views}
use Rattle.wt_html_elements.specs.Held.{fits, needed, spent}
use Rattle.wt_html_reasons.specs.Refusals.{refusal_of}
use Rattle.wt_html_elements.specs.Reads.{parts_of, state_of, tag_held, Reads, Took}
use Rattle.wt_html_elements.specs.Fed.{FedAs}
use Rattle.wt_html_elements.specs.Answer.{RefusedFor, IsIll, Answers, answer_of}
use Rattle.wt_html_elements.proofs.Reasons.{never_end}

-- a reader that goes on
going_as : (o : Option HtmlRefusal) (g : Reading) (n at : ℕ) (bytes : List ℕ) → o ≡ None → FedAs o g n at bytes → FedAs None g n at bytes
going_as o g n at bytes e h = let P : Option HtmlRefusal → Type 0 = λ p. FedAs p g n at bytes in subst P e h

as_going : (o : Option HtmlRefusal) (g : Reading) (n at : ℕ) (bytes : List ℕ) → o ≡ None → FedAs None g n at bytes → FedAs o g n at bytes
as_going o g n at bytes e h = let P : Option HtmlRefusal → Type 0 = λ p. FedAs p g n at bytes in subst P (sym e) h

pub new_fed : (g : Reading) → Reads g [] 0 → FedAs None g 0 0 []
new_fed g r = (r, refl, omega arith)

pub some_bytes : (o : Option HtmlRefusal) (g : Reading) (n at : ℕ) (bytes : List ℕ) → FedAs o g n at bytes → ∥ ((bytes : List ℕ) × FedAs o g n at bytes) ∥₁
some_bytes o g n at bytes h = ∣ (bytes, h) ∣₁

-- what a type's fact says
pub fits_now : (o : Option HtmlRefusal) (g : Reading) (n at : ℕ) → ∥ ((bytes : List ℕ) × FedAs o g n at bytes) ∥₁ → o ≡ None
    → fits (state_of g) (parts_of g) ≡ true
fits_now o g n at h e = ∥∥₁_elim h (Prim.hlevel props) (λ (bytes, f). (going_as o g n at bytes e f).0.2)

pub held_going : (o : Option HtmlRefusal) (g : Reading) (n at k : ℕ) → ∥ ((bytes : List ℕ) × FedAs o g n at bytes) ∥₁ → o ≡ None → k ≡ n - at → tag_held g ≤ k
held_going o g n at k h e f = ∥∥₁_elim h le_prop (λ (bytes, d). held (spent (state_of g)) (going_as o g n at bytes e d).0.3)
  where
    held : (s : ℕ) → tag_held g + s ≤ n - at → tag_held g ≤ k
    held s l = omega (arith, l, f)

none_held : (o : Option HtmlRefusal) (e : HtmlRefusal) (g : Reading) (n at : ℕ) (bytes : List ℕ) → o ≡ Some e → FedAs o g n at bytes → tag_held g ≡ 0
none_held None e g n at bytes is h = absurd cc
none_held (Some (refusals.Html place w)) e g n at bytes is h = h.2
none_held (Some refusals.NoMemory) e g n at bytes is h = h

pub held_failed : (o : Option HtmlRefusal) (e : HtmlRefusal) (g : Reading) (n at : ℕ) → ∥ ((bytes : List ℕ) × FedAs o g n at bytes) ∥₁ → o ≡ Some e → tag_held g ≤ 0
held_failed o e g n at h is = ∥∥₁_elim h le_prop (λ (bytes, d). omega (arith, none_held o e g n at bytes is d))

-- what was fed, once some more is
pub more_fed : (o p : Option HtmlRefusal) (g h : Reading) (m at n to : ℕ) (piece : List ℕ) → ∥ ((bytes : List ℕ) × FedAs o g m at bytes) ∥₁
    → ((bytes : List ℕ) → FedAs o g m at bytes → FedAs p h n to (bytes ++ piece)) → ∥ ((bytes : List ℕ) × FedAs p h n to bytes) ∥₁
more_fed o p g h m at n to piece f w = ∥∥₁_elim f squash₁ (λ (bytes, d). ∣ (bytes ++ piece, w bytes d) ∣₁)

-- what is held after some bytes more
held_after : (t : Bool) (taken at n new_taken new_at : ℕ) → at ≤ taken → new_taken ≡ taken + n → new_at ≡ (if t then taken + n else at)
    → (new_at ≤ new_taken) × ((if t then 0 else (taken - at) + n) ≡ new_taken - new_at)
held_after true taken at n new_taken new_at le e f = (omega (arith, e, f), omega (arith, e, f))
held_after false taken at n new_taken new_at le e f = (omega (arith, e, f), omega (arith, e, f, le))

took_fed : (o p : Option HtmlRefusal) (g h : Reading) (m at c to n : ℕ) (piece : List ℕ) → o ≡ None → p ≡ o → n ≤ length piece
    → ((bytes : List ℕ) (k : ℕ) → Reads g bytes k → Took (Ok n) h bytes piece k) → c ≡ m + n
    → to ≡ (if is_between (state_of h) then m + n else at)
    → (bytes : List ℕ) → FedAs o g m at bytes → FedAs p h c to (bytes ++ take n piece)
took_fed o p g h m at c to n piece e q l w f t bytes d =
    let r = going_as o g m at bytes e d in
    let a = held_after (is_between (state_of h)) m at n c to r.2 f t in
    let P : ℕ → Type 0 = Reads h (bytes ++ take n piece) in
    as_going p h c to (bytes ++ take n piece) (q ∙ e)
    (subst P a.1 (w bytes (m - at) r.0), omega (arith, length-append bytes (take n piece), length-take-le n piece l, r.1, f), a.0)

-- a token is whole behind these bytes, or not
pub whole_fed : (o p : Option HtmlRefusal) (g h : Reading) (m at c to n : ℕ) (piece : List ℕ) → o ≡ None → p ≡ o → n ≤ length piece
    → ((bytes : List ℕ) (k : ℕ) → Reads g bytes k → Took (Ok n) h bytes piece k) → c ≡ m + n → is_between (state_of h) ≡ true → to ≡ c
    → (bytes : List ℕ) → FedAs o g m at bytes → FedAs p h c to (bytes ++ take n piece)
whole_fed o p g h m at c to n piece e q l w f t u =
    took_fed o p g h m at c to n piece e q l w f (u ∙ f ∙ sym (ap (λ b. if b then m + n else at) t))

pub part_fed : (o p : Option HtmlRefusal) (g h : Reading) (m at c to n : ℕ) (piece : List ℕ) → o ≡ None → p ≡ o → n ≤ length piece
    → ((bytes : List ℕ) (k : ℕ) → Reads g bytes k → Took (Ok n) h bytes piece k) → c ≡ m + n → is_between (state_of h) ≡ false → to ≡ at
    → (bytes : List ℕ) → FedAs o g m at bytes → FedAs p h c to (bytes ++ take n piece)
part_fed o p g h m at c to n piece e q l w f t u =
    took_fed o p g h m at c to n piece e q l w f (u ∙ sym (ap (λ b. if b then m + n else at) t))

-- it fails
fails : (f : Fault) (g h i : Reading) (m at c to : ℕ) (bytes piece : List ℕ) → FedAs None g m at bytes
    → ((bytes : List ℕ) (k : ℕ) → Reads g bytes k → Took (Err f) h bytes piece k) → Reads i [] 0 → FedAs (Some (refusal_of m f)) i c to (bytes ++ piece)
fails (faults.Html w) g h i m at c to bytes piece d u r =
    let t = u bytes (m - at) d.0 in (t.0, t.1 ∙ sym d.1, omega (arith, r.3))
fails faults.NoMemory g h i m at c to bytes piece d u r = omega (arith, r.3)

pub failed_piece : (o p : Option HtmlRefusal) (e : HtmlRefusal) (f : Fault) (g h i : Reading) (m at c to : ℕ) (piece : List ℕ) → o ≡ None → p ≡ Some e → e ≡ refusal_of m f
    → ((bytes : List ℕ) (k : ℕ) → Reads g bytes k → Took (Err f) h bytes piece k) → Reads i [] 0
    → (bytes : List ℕ) → FedAs o g m at bytes → FedAs p i c to (bytes ++ piece)
failed_piece o p e f g h i m at c to piece is q s u r bytes d =
    let P : Option HtmlRefusal → Type 0 = λ x. FedAs x i c to (bytes ++ piece) in
    subst P (sym (q ∙ ap Some s)) (fails f g h i m at c to bytes piece (going_as o g m at bytes is d) u r)

-- a reader that has failed takes no notice of what comes
pub failed_fed : (o : Option HtmlRefusal) (e : HtmlRefusal) (g : Reading) (n at : ℕ) (bytes others : List ℕ) → o ≡ Some e → FedAs o g n at bytes
    → FedAs o g n at (bytes ++ others)
failed_fed None e g n at bytes others is h = absurd cc
failed_fed (Some (refusals.Html place w)) e g n at bytes others is h =
    (run_err bytes others start w h.0, taken_err bytes others start w h.0 ∙ h.1, h.2)
failed_fed (Some refusals.NoMemory) e g n at bytes others is h = h

-- what a failed reader says is right
pub failed_right : (o : Option HtmlRefusal) (e : HtmlRefusal) (g : Reading) (n at : ℕ) (bytes : List ℕ) → o ≡ Some e → FedAs o g n at bytes → RefusedFor bytes e
failed_right None e g n at bytes is h = absurd cc
failed_right (Some (refusals.Html place w)) e g n at bytes is h =
    let f = refused bytes w h.0 in
    let P : ℕ → Type 0 = λ k. RefusedFor bytes (refusals.Html k w) in
    let Q : HtmlRefusal → Type 0 = RefusedFor bytes in
    let same : refusals.Html place w ≡ e = cc in
    subst Q same (subst P h.1 f)
failed_right (Some refusals.NoMemory) e g n at bytes is h =
    let Q : HtmlRefusal → Type 0 = RefusedFor bytes in
    let same : refusals.NoMemory ≡ e = cc in
    subst Q same tt

going_front : (o : Option HtmlRefusal) (g : Reading) (n at : ℕ) (bytes : List ℕ) → o ≡ None → FedAs o g n at bytes → Front bytes
going_front o g n at bytes e h = front_of bytes (state_of g) (going_as o g n at bytes e h).0.0

-- what it has built stands for what was fed
needed_root : (s : State) (x : Building) → (needed s x).root ≡ x.root
needed_root start x = refl
needed_root first x = refl
needed_root (doctype cs) x = refl
needed_root (inside ns) x = refl
needed_root (less ns) x = refl
needed_root (naming ns n) x = refl
needed_root (gap t) x = refl
needed_root (attribute t a) x = refl
needed_root (named_so t) x = refl
needed_root (equals t) x = refl
needed_root (value t q) x = refl
needed_root (valued t) x = refl
needed_root (slashed t) x = refl
needed_root (closing cs ns) x = refl
needed_root (closed ns) x = refl
needed_root (escaping s e) x = needed_root s x

-- once it is whole it has the root of what was fed
root_fed : (o : Option HtmlRefusal) (g : Reading) (k at : ℕ) (bytes : List ℕ) → o ≡ None → is_accepted (state_of g) ≡ true → FedAs o g k at bytes
    → (t : Markup) × (views g.builder.root.items ≡ more t empty)
root_fed o g k at bytes e a h =
    let r = (going_as o g k at bytes e h).0 in
    let w = well_of bytes (state_of g) r.0 a in
    let t : Markup = meaning w.0.root in
    let s : Stands bytes t = (w.0, w.1, w.2, refl) in
    (t, ap (λ (x : Building). x.root) r.1 ∙ needed_root (state_of g) (built bytes) ∙ ap (λ (x : Building). x.root) (stands_told bytes t s))

some_content : (cs : List Content) (t : Markup) → views cs ≡ more t empty → 1 ≤ length cs
some_content [] t e = cc
some_content (c ∷ cs) t e = omega arith

pub has_root : (o : Option HtmlRefusal) (g : Reading) (n at : ℕ) → ∥ ((bytes : List ℕ) × FedAs o g n at bytes) ∥₁ → o ≡ None
    → is_accepted (state_of g) ≡ true → 1 ≤ length g.builder.root.items
has_root o g n at h e a = ∥∥₁_elim h le_prop (λ (bytes, d). let x = root_fed o g n at bytes e a d in some_content g.builder.root.items x.0 x.1)

pub ends_well : (o : Option HtmlRefusal) (g : Reading) (k at : ℕ) (bytes : List ℕ) (n : Content) → o ≡ None → is_accepted (state_of g) ≡ true
    → ((t : Markup) → views g.builder.root.items ≡ more t empty → view_content n ≡ t) → FedAs o g k at bytes → Stands bytes (view_content n)
unfolding root_fed
ends_well o g k at bytes n e a f h =
    let w = well_of bytes (state_of g) (going_as o g k at bytes e h).0.0 a in
    let x = root_fed o g k at bytes e a h in
    (w.0, w.1, w.2, sym (f x.0 x.1))

pub ends_ill : (o : Option HtmlRefusal) (g : Reading) (k at : ℕ) (bytes : List ℕ) → o ≡ None → is_accepted (state_of g) ≡ false → FedAs o g k at bytes
    → RefusedFor bytes (refusals.Html k End)
ends_ill o g k at bytes e a h =
    let r = going_as o g k at bytes e h in
    let P : ℕ → Type 0 = λ p. RefusedFor bytes (refusals.Html p End) in
    subst P (sym r.1) (cut_off bytes (state_of g) r.0.0 a)

answer_ok : (f : Option HtmlRefusal) (u : Unit {0}) → Ok u ≡ answer_of f → f ≡ None
answer_ok None u e = refl
answer_ok (Some r) u e = cc

answer_err : (f : Option HtmlRefusal) (e : HtmlRefusal) → Err e ≡ answer_of f → f ≡ Some e
answer_err None e h = cc
answer_err (Some r) e h = cc

-- no well-formed input begins so
pub failed_ill : (o : Option HtmlRefusal) (e : HtmlRefusal) (g : Reading) (n at : ℕ) (bytes : List ℕ) → o ≡ Some e → FedAs o g n at bytes → IsIll bytes e
failed_ill None e g n at bytes is h = absurd cc
failed_ill (Some (refusals.Html place w)) e g n at bytes is h =
    let Q : HtmlRefusal → Type 0 = IsIll bytes in
    let same : refusals.Html place w ≡ e = cc in
    subst Q same (no_front bytes w h.0, never_end bytes w h.0)
failed_ill (Some refusals.NoMemory) e g n at bytes is h =
    let Q : HtmlRefusal → Type 0 = IsIll bytes in
    let same : refusals.NoMemory ≡ e = cc in
    subst Q same tt

-- what a call that goes on says, and one that doesn't
pub front_clause : (o : Option HtmlRefusal) (g : Reading) (n at : ℕ) (r : Result (Unit {0}) HtmlRefusal) → r ≡ answer_of o
    → OnOk r ((bytes : List ℕ) → FedAs o g n at bytes → Front bytes)
front_clause o g n at (Ok u) e = λ bytes h. going_front o g n at bytes (answer_ok o u e) h
front_clause o g n at (Err f) e = tt

pub refused_clause : (o : Option HtmlRefusal) (g : Reading) (n at : ℕ) (r : Result (Unit {0}) HtmlRefusal) → r ≡ answer_of o
    → IfErr r (λ e. (bytes : List ℕ) → FedAs o g n at bytes → RefusedFor bytes e)
refused_clause o g n at (Ok u) e = tt
refused_clause o g n at (Err f) e = λ bytes h. failed_right o f g n at bytes (answer_err o f e) h

pub ill_clause : (o : Option HtmlRefusal) (g : Reading) (n at : ℕ) (r : Result (Unit {0}) HtmlRefusal) → r ≡ answer_of o
    → IfErr r (λ e. (bytes : List ℕ) → FedAs o g n at bytes → IsIll bytes e)
ill_clause o g n at (Ok u) e = tt
ill_clause o g n at (Err f) e = λ bytes h. failed_ill o f g n at bytes (answer_err o f e) h

-- some of a piece behind what was fed of it
pub some_fed : (P : List ℕ → Type 0) (bytes piece rest : List ℕ) (at n : ℕ) → rest ≡ drop at piece → P ((bytes ++ take at piece) ++ take n rest)
    → P (bytes ++ take (at + n) piece)
some_fed P bytes piece rest at n is h =
    let Q : List ℕ → Type 0 = λ w. P ((bytes ++ take at piece) ++ take n w) in
    subst P (append_assoc bytes (take at piece) (take n (drop at piece)) ∙ ap (λ x. bytes ++ x) (sym (take-add at n piece))) (subst Q is h)

-- all of it, where the reader fails
pub rest_fed : (P : List ℕ → Type 0) (bytes piece rest : List ℕ) (at : ℕ) → rest ≡ drop at piece → P ((bytes ++ take at piece) ++ rest) → P (bytes ++ piece)
rest_fed P bytes piece rest at is h =
    let Q : List ℕ → Type 0 = λ w. P ((bytes ++ take at piece) ++ w) in
    subst P (append_assoc bytes (take at piece) (drop at piece) ∙ ap (λ x. bytes ++ x) (take-append-drop at piece)) (subst Q is h)

-- what is held undecoded
pub kept_is : (o : Option HtmlRefusal) (g : Reading) (n at k : ℕ) → o ≡ None → k ≡ n - at → (bytes : List ℕ) → FedAs o g n at bytes → IsKept bytes k
kept_is o g n at k e f bytes h = let P : ℕ → Type 0 = IsKept bytes in subst P (sym f) (going_as o g n at bytes e h).0.4
