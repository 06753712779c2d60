-- The cut before a piece of the page is at the piece's first byte, and the origins cover the page.
use Rattle.std.proofs.Common.{◌≡◌, ℕ, zero, suc, ◌+◌, ◌<◌, Bool, true, false, Option, Some, None, List, [], ◌∷◌, ◌++◌, length, map, refl, sym, ap, ◌∙◌, subst, arith, append_assoc, append-nil, length-append}
use Rattle.std.specs.Prelude.{slice_get, not, if◌then◌else◌}
use Rattle.std.specs.List.{All}
use Rattle.std.proofs.lemmas.Bool.Decides.{nat_tests}
use Rattle.std.proofs.lemmas.List.Elements.{All-head, All-tail}
use Rattle.wt_span.specs.declared.origin.Origin.{Origin}
use Rattle.wt_span.specs.declared.origin.Origin.TheVariants as origin
use Rattle.wt_span.specs.declared.form.ItemForm.{ItemForm}
use Rattle.wt_span.specs.declared.form.ItemForm.TheVariants as form
use Rattle.wt_span.specs.declared.form.Piece.{Piece}
use Rattle.wt_span.specs.Slice.{bytes_of, start_of, end_of}
use Rattle.wt_span.specs.Items.{Item, char, source, sources, call_of, call_of_origin, items_by, items_of, items}
use Rattle.wt_span.specs.Origins.{OuterCall, Span, span_of, span_of_entry, span_of_origin, same_call, origin_before, once, FollowFrom, IsPlaced, IsSoundPiece, AreItems}
use Rattle.wt_span.specs.Cuts.{call_of_item, is_free, source_of_call, text_by, origin_text, text_at, place, text_between, page_of}
use Rattle.wt_span.specs.Whole.{IsWhole}
use Rattle.wt_expand.specs.PiecePlaces.{IsBegin, BeginFrom, end_of_spans}
use Rattle.wt_expand.proofs.MadePieces.{once_page}
use Rattle.wt_expand.proofs.PageLaws.{form_sources}

-- ---- the item behind a cut

pub get_mid : {A : Type 0} → (front : List A) (x : A) (xs : List A) → slice_get (front ++ x ∷ xs) (length front) ≡ Some x
get_mid [] x xs = refl
get_mid (a ∷ front) x xs = get_mid front x xs

-- the call of the last item
abbrev pub last_call : List Item → Option ℕ
last_call [] = None
last_call (x ∷ []) = call_of x
last_call (x ∷ y ∷ ys) = last_call (y ∷ ys)

pub last_push : (front : List Item) (x : Item) → last_call (front ++ x ∷ []) ≡ call_of x
last_push [] x = refl
last_push (a ∷ []) x = refl
last_push (a ∷ b ∷ front) x = last_push (b ∷ front) x

last_get : (a : Item) (front : List Item) (x : Item) (xs : List Item) → call_of_item (slice_get (a ∷ front ++ x ∷ xs) (length front)) ≡ last_call (a ∷ front)
last_get a [] x xs = refl
last_get a (b ∷ front) x xs = last_get b front x xs

free_here : (front : List Item) (x : Item) (xs : List Item) → is_free (front ++ x ∷ xs) (length front) ≡ not (same_call (last_call front) (call_of x))
free_here [] x xs = refl
free_here (a ∷ front) x xs =
    ap (λ o. not (same_call o (call_of_item (slice_get (a ∷ front ++ x ∷ xs) (suc (length front)))))) (last_get a front x xs)
    ∙ ap (λ o. not (same_call (last_call (a ∷ front)) (call_of_item o))) (get_mid front x xs)

-- what stands on the page for an item behind one of this call
abbrev pub text_behind : List OuterCall → Option ℕ → Item → List ℕ
text_behind calls before x = if not (same_call before (call_of x)) then text_by calls (call_of x) (source x) else []

pub text_here : (calls : List OuterCall) (front : List Item) (x : Item) (xs : List Item)
    → text_at calls (front ++ x ∷ xs) (length front) ≡ text_behind calls (last_call front) x
text_here calls front x xs =
    ap (λ t. if t then origin_text calls (slice_get (front ++ x ∷ xs) (length front)) else []) (free_here front x xs)
    ∙ ap (λ o. if not (same_call (last_call front) (call_of x)) then origin_text calls o else []) (get_mid front x xs)

pub length_push : {A : Type 0} → (front : List A) (x : A) → length (front ++ x ∷ []) ≡ suc (length front)
length_push front x = omega (arith, length-append front (x ∷ []))

place_push : (calls : List OuterCall) (front : List Item) (x : Item) (xs : List Item)
    → place calls (front ++ x ∷ xs) (length (front ++ x ∷ [])) ≡ place calls (front ++ x ∷ xs) (length front) + length (text_behind calls (last_call front) x)
place_push calls front x xs =
    ap (place calls (front ++ x ∷ xs)) (length_push front x) ∙ ap (λ t. place calls (front ++ x ∷ xs) (length front) + length t) (text_here calls front x xs)

-- ---- the items of a piece

abbrev pub AllFrom : Option ℕ → List Item → Type 0
AllFrom o [] = Unit {0}
AllFrom o (x ∷ xs) = (call_of x ≡ o) × AllFrom o xs

pub chars_from : (o : Option ℕ) (bs : List ℕ) → AllFrom o (map (char o) bs)
chars_from o [] = tt
chars_from o (b ∷ bs) = (refl, chars_from o bs)

pub form_from : (f : ItemForm) (o : Option ℕ) (bs : List ℕ) → AllFrom o (items_by f o bs)
form_from form.Chars o bs = chars_from o bs
form_from (form.Entity c) o bs = (refl, tt)
form_from form.Nowiki o bs = (refl, tt)
form_from form.Extension o bs = (refl, tt)
form_from form.Function o bs = (refl, tt)
form_from form.Comment o bs = (refl, tt)
form_from form.Include o bs = (refl, tt)
form_from form.Hidden o bs = (refl, tt)
form_from form.EmptyCall o bs = (refl, tt)

chars_some : (o : Option ℕ) (bs : List ℕ) → 0 < length bs → 0 < length (map (char o) bs)
chars_some o [] h = h
chars_some o (b ∷ bs) h = omega arith

form_some : (f : ItemForm) (o : Option ℕ) (bs : List ℕ) → IsWhole f bs → 0 < length (items_by f o bs)
form_some form.Chars o bs h = chars_some o bs h
form_some (form.Entity c) o bs h = omega arith
form_some form.Nowiki o bs h = omega arith
form_some form.Extension o bs h = omega arith
form_some form.Function o bs h = omega arith
form_some form.Comment o bs h = omega arith
form_some form.Include o bs h = omega arith
form_some form.Hidden o bs h = omega arith
form_some form.EmptyCall o bs h = omega arith

-- ---- the place behind items of one origin

pub behind_page : (calls : List OuterCall) (before : Option ℕ) (x : Item) → call_of x ≡ None → text_behind calls before x ≡ source x
behind_page calls None x e = ap (λ o. text_by calls o (source x)) e
behind_page calls (Some j) x e = ap (λ o. if not (same_call (Some j) o) then text_by calls o (source x) else []) e

same_self : (k : ℕ) → same_call (Some k) (Some k) ≡ true
same_self k = grind (arith, nat_tests)

pub behind_same : (calls : List OuterCall) (before : Option ℕ) (k : ℕ) (x : Item) → before ≡ Some k → call_of x ≡ Some k → text_behind calls before x ≡ []
behind_same calls before k x b e =
    ap (λ o. if not (same_call o (call_of x)) then text_by calls (call_of x) (source x) else []) b
    ∙ ap (λ o. if not (same_call (Some k) o) then text_by calls o (source x) else []) e
    ∙ ap (λ t. if not t then text_by calls (Some k) (source x) else []) (same_self k)

move : (front : List Item) (z : Item) (zs xs : List Item) → front ++ (z ∷ zs ++ xs) ≡ (front ++ z ∷ []) ++ (zs ++ xs)
move front z zs xs = sym (append_assoc front (z ∷ []) (zs ++ xs))

behind_of_page : (calls : List OuterCall) (front zs xs : List Item) → AllFrom None zs
    → place calls (front ++ (zs ++ xs)) (length (front ++ zs)) ≡ place calls (front ++ (zs ++ xs)) (length front) + length (sources zs)
behind_of_page calls front [] xs h = ap (λ ys. place calls (front ++ xs) (length ys)) (append-nil front) ∙ omega arith
behind_of_page calls front (z ∷ zs) xs h =
    let all = front ++ (z ∷ zs ++ xs) in
    let m = move front z zs xs in
    let P : List Item → Type 0 = λ ys. place calls ys (length ((front ++ z ∷ []) ++ zs)) ≡ place calls ys (length (front ++ z ∷ [])) + length (sources zs) in
    let r = subst P (sym m) (behind_of_page calls (front ++ z ∷ []) zs xs h.1) in
    let s : place calls all (length (front ++ z ∷ [])) ≡ place calls all (length front) + length (source z) =
    place_push calls front z (zs ++ xs) ∙ ap (λ t. place calls all (length front) + length t) (behind_page calls (last_call front) z h.0) in
    let e : length (front ++ z ∷ zs) ≡ length ((front ++ z ∷ []) ++ zs) = ap length (sym (append_assoc front (z ∷ []) zs)) in
    ap (place calls all) e ∙ omega (arith, r, s, length-append (source z) (sources zs))

behind_of_same : (calls : List OuterCall) (k : ℕ) (front zs xs : List Item) → last_call front ≡ Some k → AllFrom (Some k) zs
    → place calls (front ++ (zs ++ xs)) (length (front ++ zs)) ≡ place calls (front ++ (zs ++ xs)) (length front)
behind_of_same calls k front [] xs b h = ap (λ ys. place calls (front ++ xs) (length ys)) (append-nil front)
behind_of_same calls k front (z ∷ zs) xs b h =
    let all = front ++ (z ∷ zs ++ xs) in
    let m = move front z zs xs in
    let P : List Item → Type 0 = λ ys. place calls ys (length ((front ++ z ∷ []) ++ zs)) ≡ place calls ys (length (front ++ z ∷ [])) in
    let r = subst P (sym m) (behind_of_same calls k (front ++ z ∷ []) zs xs (last_push front z ∙ h.0) h.1) in
    let s : place calls all (length (front ++ z ∷ [])) ≡ place calls all (length front) + 0 =
    place_push calls front z (zs ++ xs) ∙ ap (λ t. place calls all (length front) + length t) (behind_same calls (last_call front) k z b h.0) in
    let e : length (front ++ z ∷ zs) ≡ length ((front ++ z ∷ []) ++ zs) = ap length (sym (append_assoc front (z ∷ []) zs)) in
    ap (place calls all) e ∙ omega (arith, r, s)

-- what a call adds to the place, where the item before comes from this call or doesn't
abbrev added : List OuterCall → Option ℕ → ℕ → ℕ
added calls before k = if not (same_call before (Some k)) then length (source_of_call (slice_get calls k)) else 0

behind_first : (calls : List OuterCall) (before : Option ℕ) (k : ℕ) (x : Item) → call_of x ≡ Some k → length (text_behind calls before x) ≡ added calls before k
behind_first calls before k x e = ap (λ o. length (if not (same_call before o) then text_by calls o (source x) else [])) e ∙ by_test (same_call before (Some k))
  where
    by_test : (t : Bool) → length (if not t then text_by calls (Some k) (source x) else []) ≡ (if not t then length (source_of_call (slice_get calls k)) else 0)
    by_test true = refl
    by_test false = refl

behind_of_call : (calls : List OuterCall) (k : ℕ) (front zs xs : List Item) → 0 < length zs → AllFrom (Some k) zs
    → place calls (front ++ (zs ++ xs)) (length (front ++ zs)) ≡ place calls (front ++ (zs ++ xs)) (length front) + added calls (last_call front) k
behind_of_call calls k front [] xs some h = absurd (omega arith)
behind_of_call calls k front (z ∷ zs) xs some h =
    let all = front ++ (z ∷ zs ++ xs) in
    let m = move front z zs xs in
    let P : List Item → Type 0 = λ ys. place calls ys (length ((front ++ z ∷ []) ++ zs)) ≡ place calls ys (length (front ++ z ∷ [])) in
    let r = subst P (sym m) (behind_of_same calls k (front ++ z ∷ []) zs xs (last_push front z ∙ h.0) h.1) in
    let s = place_push calls front z (zs ++ xs) in
    let e : length (front ++ z ∷ zs) ≡ length ((front ++ z ∷ []) ++ zs) = ap length (sym (append_assoc front (z ∷ []) zs)) in
    ap (place calls all) e ∙ omega (arith, r, s, behind_first calls (last_call front) k z h.0)

pub last_of : (o : Option ℕ) (front zs : List Item) → 0 < length zs → AllFrom o zs → last_call (front ++ zs) ≡ o
last_of o front [] some h = absurd (omega arith)
last_of o front (z ∷ []) some h = last_push front z ∙ h.0
last_of o front (z ∷ y ∷ ys) some h = ap last_call (sym (append_assoc front (z ∷ []) (y ∷ ys))) ∙ last_of o (front ++ z ∷ []) (y ∷ ys) (omega arith) h.1

-- ---- piece after piece

abbrev origins : List Piece → List Origin
origins ps = map (λ p. p.origin) ps

-- the call of the first piece
abbrev first_call : List Piece → Option ℕ
first_call [] = None
first_call (p ∷ ps) = call_of_origin p.origin

abbrev source_len : List OuterCall → ℕ → ℕ
source_len calls k = length (source_of_call (slice_get calls k))

-- what of the next item's origin has been counted: all of a call that goes on
abbrev already : List OuterCall → Option ℕ → Option ℕ → ℕ
already calls before None = 0
already calls before (Some k) = if same_call before (Some k) then source_len calls k else 0

both : (calls : List OuterCall) (before : Option ℕ) (k : ℕ) → already calls before (Some k) + added calls before k ≡ source_len calls k
both calls before k = by_test (same_call before (Some k))
  where
    by_test : (t : Bool) → (if t then source_len calls k else 0) + (if not t then source_len calls k else 0) ≡ source_len calls k
    by_test true = omega arith
    by_test false = omega arith

before_is : (ps : List Piece) (o : Option ℕ) (p : Origin) → call_of_origin p ≡ o → origin_before (origins ps) p ≡ same_call o (first_call ps)
before_is [] None p e = refl
before_is [] (Some k) p e = refl
before_is (q ∷ ps) o p e = ap (λ c. same_call c (call_of_origin q.origin)) e

already_other : (calls : List OuterCall) (before next : Option ℕ) → same_call before next ≡ false → already calls before next ≡ 0
already_other calls before None e = refl
already_other calls before (Some k) e = ap (λ t. if t then source_len calls k else 0) e

already_same : (calls : List OuterCall) (k : ℕ) (next : Option ℕ) → same_call (Some k) next ≡ true → already calls (Some k) next ≡ source_len calls k
already_same calls k None e = absurd cc
already_same calls k (Some j) e =
    let same : k ≡ j = grind (arith, nat_tests) in
    ap (λ t. if t then source_len calls j else 0) e ∙ ap (source_len calls) (sym same)

-- where these pieces stand, and where the items end
record Standing (calls : List OuterCall) (all : List Item) (n at : ℕ) (ps : List Piece) : Type 0 where
  pub begin : BeginFrom calls all n ps
  pub end : place calls all (length all) ≡ end_of_spans at (map (span_of_origin calls) (once (origins ps)))

-- the place behind a piece, and where its origin or what comes before it ends
record Passed (calls : List OuterCall) (all front : List Item) (p : Piece) (ps : List Piece) (at : ℕ) : Type 0 where
  pub begin : IsBegin p.origin (place calls all (length front)) (start_of p.text)
  pub to : ℕ
  pub follow : FollowFrom to (map (span_of_origin calls) (once (origins ps)))
  pub place_is : place calls all (length (front ++ items_of p)) ≡ to + already calls (last_call (front ++ items_of p)) (first_call ps)
  pub ends : end_of_spans at (map (span_of_origin calls) (once (origins (p ∷ ps)))) ≡ end_of_spans to (map (span_of_origin calls) (once (origins ps)))

abbrev spans : List OuterCall → List Piece → List Span
spans calls ps = map (span_of_origin calls) (once (origins ps))

pass_page : (calls : List OuterCall) (front : List Item) (p : Piece) (ps : List Piece) (at : ℕ) (o : Origin) → p.origin ≡ o
    → call_of_origin o ≡ None → IsSoundPiece p → FollowFrom at (spans calls (p ∷ ps))
    → place calls (front ++ (items_of p ++ items ps)) (length front) ≡ at
    + already calls (last_call front) (call_of_origin p.origin) → Passed calls (front ++ (items_of p ++ items ps)) front p ps at
pass_page calls front p ps at (origin.Call k) e none sound f had = absurd cc
pass_page calls front p ps at (origin.Page r) e none sound f had =
    let all = front ++ (items_of p ++ items ps) in
    let own : call_of_origin p.origin ≡ None = ap call_of_origin e in
    let cut : spans calls (p ∷ ps) ≡ span_of r ∷ spans calls ps =
    ap (map (span_of_origin calls)) (once_page (origins ps) p.origin own) ∙ ap (λ q. span_of_origin calls q ∷ spans calls ps) e in
    let follow = subst (FollowFrom at) cut f in
    let P : Origin → Type 0 = λ q. IsPlaced q (start_of p.text, end_of p.text) in
    let placed : span_of r ≡ (start_of p.text, end_of p.text) = subst P e sound.placed in
    let from : r.start ≡ start_of p.text = ap (λ (s : Span). s.0) placed in
    let to : r.end ≡ end_of p.text = ap (λ (s : Span). s.1) placed in
    let here : place calls all (length front) ≡ at = had ∙ ap (λ c. at + already calls (last_call front) c) own ∙ omega arith in
    let items_e : AllFrom None (items_of p) = let Q : Option ℕ → Type 0 = λ c. AllFrom c (items_of p) in
    subst Q own (form_from p.form (call_of_origin p.origin) (bytes_of p.text)) in
    let some = form_some p.form (call_of_origin p.origin) (bytes_of p.text) sound.whole in
    let text : sources (items_of p) ≡ bytes_of p.text = ap (λ c. sources (items_by p.form c (bytes_of p.text))) own ∙ form_sources p.form (bytes_of p.text) in
    let last : last_call (front ++ items_of p) ≡ None = last_of None front (items_of p) some items_e in
    let B : Origin → Type 0 = λ q. IsBegin q (place calls all (length front)) (start_of p.text) in
    record {
      begin = subst B (sym e) (here ∙ sym follow.0 ∙ from);
      to = r.end;
      follow = follow.1;
      place_is = behind_of_page calls front (items_of p) (items ps) items_e
          ∙ omega (arith, here, follow.0, from, to, ap length text)
          ∙ ap (λ c. r.end + c) (sym (already_none calls (last_call (front ++ items_of p)) (first_call ps) last));
      ends = ap (end_of_spans at) cut;
    }
  where
    already_none : (calls : List OuterCall) (before next : Option ℕ) → before ≡ None → already calls before next ≡ 0
    already_none calls before next e = ap (λ b. already calls b next) e ∙ already_other calls None next refl

entry_end : (c : Option OuterCall) (at : ℕ) → (span_of_entry c).0 ≡ at → (span_of_entry c).1 ≡ at + length (source_of_call c)
entry_end None at e = omega (arith, e)
entry_end (Some c) at e = omega (arith, e)

pass_call : (calls : List OuterCall) (front : List Item) (p : Piece) (ps : List Piece) (at k : ℕ) (t : Bool)
    → p.origin ≡ origin.Call k → IsSoundPiece p → FollowFrom at (spans calls (p ∷ ps))
    → same_call (Some k) (first_call ps) ≡ t
    → place calls (front ++ (items_of p ++ items ps)) (length front) ≡ at
    + already calls (last_call front) (call_of_origin p.origin) → Passed calls (front ++ (items_of p ++ items ps)) front p ps at
pass_call calls front p ps at k t e sound f next had = by_next t next
  where
    all : List Item
    all = front ++ (items_of p ++ items ps)

    own : call_of_origin p.origin ≡ Some k
    own = ap call_of_origin e

    from : AllFrom (Some k) (items_of p)
    from = let Q : Option ℕ → Type 0 = λ c. AllFrom c (items_of p) in subst Q own (form_from p.form (call_of_origin p.origin) (bytes_of p.text))

    some : 0 < length (items_of p)
    some = form_some p.form (call_of_origin p.origin) (bytes_of p.text) sound.whole

    last : last_call (front ++ items_of p) ≡ Some k
    last = last_of (Some k) front (items_of p) some from

    behind : place calls all (length (front ++ items_of p)) ≡ at + source_len calls k
    behind = behind_of_call calls k front (items_of p) (items ps) some from
        ∙ omega (arith, had, ap (already calls (last_call front)) own, both calls (last_call front) k)

    begin : IsBegin p.origin (place calls all (length front)) (start_of p.text)
    begin = let B : Origin → Type 0 = λ q. IsBegin q (place calls all (length front)) (start_of p.text) in subst B (sym e) tt

    once_by : (b : Bool) → same_call (Some k) (first_call ps) ≡ b → once (origins (p ∷ ps)) ≡ (if b then once (origins ps) else p.origin ∷ once (origins ps))
    once_by b g = ap (λ c. if c then once (origins ps) else p.origin ∷ once (origins ps)) (before_is ps (Some k) p.origin own ∙ g)

    by_next : (b : Bool) → same_call (Some k) (first_call ps) ≡ b → Passed calls all front p ps at
    by_next true g =
        let cut : spans calls (p ∷ ps) ≡ spans calls ps = ap (map (span_of_origin calls)) (once_by true g) in
        record {
          begin = begin;
          to = at;
          follow = subst (FollowFrom at) cut f;
          place_is = behind ∙ ap (λ c. at + c) (sym (ap (λ b. already calls b (first_call ps)) last ∙ already_same calls k (first_call ps) g));
          ends = ap (end_of_spans at) cut;
        }
    by_next false g =
        let cut : spans calls (p ∷ ps) ≡ span_of_entry (slice_get calls k) ∷ spans calls ps =
        ap (map (span_of_origin calls)) (once_by false g) ∙ ap (λ q. span_of_origin calls q ∷ spans calls ps) e in
        let follow = subst (FollowFrom at) cut f in
        let ends = entry_end (slice_get calls k) at follow.0 in
        record {
          begin = begin;
          to = (span_of_entry (slice_get calls k)).1;
          follow = follow.1;
          place_is = behind ∙ sym ends ∙ omega (arith, ap (λ b. already calls b (first_call ps)) last, already_other calls (Some k) (first_call ps) g);
          ends = ap (end_of_spans at) cut;
        }

pass : (calls : List OuterCall) (front : List Item) (p : Piece) (ps : List Piece) (at : ℕ) (o : Origin) → p.origin ≡ o
    → IsSoundPiece p → FollowFrom at (spans calls (p ∷ ps))
    → place calls (front ++ (items_of p ++ items ps)) (length front) ≡ at
    + already calls (last_call front) (call_of_origin p.origin) → Passed calls (front ++ (items_of p ++ items ps)) front p ps at
pass calls front p ps at (origin.Page r) e sound f had = pass_page calls front p ps at (origin.Page r) e refl sound f had
pass calls front p ps at (origin.Call k) e sound f had = pass_call calls front p ps at k (same_call (Some k) (first_call ps)) e sound f refl had

stand : (calls : List OuterCall) (ps : List Piece) (front : List Item) (at : ℕ) → All IsSoundPiece ps → FollowFrom at (spans calls ps)
    → place calls (front ++ items ps) (length front) ≡ at + already calls (last_call front) (first_call ps)
    → Standing calls (front ++ items ps) (length front) at ps
stand calls [] front at sound f had = record {
  begin = tt;
  end = ap (λ xs. place calls (front ++ []) (length xs)) (append-nil front) ∙ had ∙ omega arith;
}
stand calls (p ∷ ps) front at sound f had =
    let all = front ++ (items_of p ++ items ps) in
    let s = pass calls front p ps at p.origin refl (All-head IsSoundPiece p ps sound) f had in
    let m : (front ++ items_of p) ++ items ps ≡ all = append_assoc front (items_of p) (items ps) in
    let P : List Item → Type 0 = λ xs. place calls xs (length (front ++ items_of p)) ≡ s.to + already calls (last_call (front ++ items_of p)) (first_call ps) in
    let Q : List Item → Type 0 = λ xs. Standing calls xs (length (front ++ items_of p)) s.to ps in
    let r = subst Q m (stand calls ps (front ++ items_of p) s.to (All-tail IsSoundPiece p ps sound) s.follow (subst P (sym m) s.place_is)) in
    let B : ℕ → Type 0 = λ n. BeginFrom calls all n ps in
    record {
      begin = (s.begin, subst B (length-append front (items_of p)) r.begin);
      end = r.end ∙ sym s.ends;
    }

-- ---- the page

pub text_place : (calls : List OuterCall) (all : List Item) (k n : ℕ) → place calls all (n + k) ≡ place calls all n + length (text_between calls all n k)
text_place calls all zero n = let e : n + 0 ≡ n = omega arith in ap (place calls all) e ∙ omega arith
text_place calls all (suc k) n =
    let e : n + suc k ≡ suc n + k = omega arith in
    ap (place calls all) e ∙ omega (arith, text_place calls all k (suc n), length-append (text_at calls all n) (text_between calls all (suc n) k))

page_place : (calls : List OuterCall) (all : List Item) → place calls all (length all) ≡ length (page_of calls all)
page_place calls all = let e : 0 + length all ≡ length all = omega arith in ap (place calls all) (sym e) ∙ text_place calls all (length all) 0 ∙ omega arith

whole_standing : (ps : List Piece) (calls : List OuterCall) (ts : List Span) → AreItems ps calls ts → Standing calls (items ps) 0 0 ps
whole_standing ps calls ts h = stand calls ps [] 0 h.sound_pieces h.follow (sym (ap (λ n. 0 + n) (none_before (first_call ps))))
  where
    none_before : (next : Option ℕ) → already calls None next ≡ 0
    none_before next = already_other calls None next refl

pub pieces_begin : (ps : List Piece) (calls : List OuterCall) (ts : List Span) → AreItems ps calls ts → BeginFrom calls (items ps) 0 ps
pieces_begin ps calls ts h = (whole_standing ps calls ts h).begin

pub page_is_covered : (ps : List Piece) (calls : List OuterCall) (ts : List Span) → AreItems ps calls ts
    → length (page_of calls (items ps)) ≡ end_of_spans 0 (map (span_of_origin calls) (once (map (λ p. p.origin) ps)))
page_is_covered ps calls ts h = sym (page_place calls (items ps)) ∙ (whole_standing ps calls ts h).end
