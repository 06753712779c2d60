-- Items of pieces: those of one piece come from one call.
use Rattle.std.proofs.Common.{◌≡◌, ℕ, suc, ◌+◌, ◌<◌, ◌≤◌, Bool, true, false, Option, None, Some, List, [], ◌∷◌, ◌++◌, ◌⊎◌, inl, inr, length, map, take, drop, get_or, refl, sym, ap, ◌∙◌, subst, cond, arith, append-nil}
use Rattle.std.specs.Prelude.{slice_get, not, ◌&&◌, ◌||◌, ◌==◌}
use Rattle.std.specs.List.{list_all, list_any}
use Rattle.std.proofs.lemmas.Grind.{flat_map-append}
use Rattle.std.proofs.lemmas.Bool.Decides.{nat_tests}
use Rattle.std.proofs.lemmas.List.{drop_more, take_more}
use Rattle.std.proofs.lemmas.List.Folds.{list_all-append, list_any-append}
use Rattle.wt_span.specs.declared.form.ItemForm.{ItemForm}
use Rattle.wt_span.specs.declared.form.ItemForm.TheVariants as form
use Rattle.wt_span.specs.declared.form.Piece.{Piece}
use Rattle.wt_span.specs.Slice.{bytes_of}
use Rattle.wt_span.specs.Items.{Item, char, whole, call_of_origin, items_by, items_of, items}
use Rattle.wt_span.specs.Origins.{OuterCall}
use Rattle.wt_span.specs.Cuts.{source_of_call, text_by}
use Rattle.wt_annotated.specs.Clean.{is_no_call, is_page}
use Rattle.wt_annotated.specs.Pieces.{is_characters, is_hollow}
use Rattle.wt_annotated.specs.Seams.{first_found, last_of, parted, text_from}
use Rattle.wt_annotated.proofs.Seams.{either, last_append, found_append, text_append_from}

-- ---- one piece

-- the only one of these pieces
pub only_piece : (ps : List Piece) (p : Piece) → 1 ≤ length ps → length ps < 2 → p ≡ get_or ps 0 p → items_of p ≡ items ps
only_piece [] p l m e = absurd (omega (arith, l))
only_piece (q ∷ []) p l m e = ap items_of e ∙ sym (append-nil (items_of q))
only_piece (q ∷ r ∷ rs) p l m e = absurd (omega (arith, m))

abbrev pub hollow_by : ItemForm → List ℕ → Bool
hollow_by f bs = is_characters f && length bs == 0

some_left : (n : ℕ) → (suc n == 0) ≡ false
some_left n = grind (arith, nat_tests)

-- characters, or one item
abbrev pub OneOrChars : ItemForm → Option ℕ → List ℕ → Type 0
OneOrChars f o bs = ((is_characters f ≡ true) × (items_by f o bs ≡ map (char o) bs)) ⊎ ((is_characters f ≡ false) × (items_by f o bs ≡ whole f o bs ∷ []))

pub one_or_chars : (f : ItemForm) (o : Option ℕ) (bs : List ℕ) → OneOrChars f o bs
one_or_chars form.Chars o bs = inl (refl, refl)
one_or_chars (form.Entity c) o bs = inr (refl, refl)
one_or_chars form.Nowiki o bs = inr (refl, refl)
one_or_chars form.Extension o bs = inr (refl, refl)
one_or_chars form.Function o bs = inr (refl, refl)
one_or_chars form.Comment o bs = inr (refl, refl)
one_or_chars form.Include o bs = inr (refl, refl)
one_or_chars form.Hidden o bs = inr (refl, refl)
one_or_chars form.EmptyCall o bs = inr (refl, refl)

-- what holds of no items where a piece is hollow, and of items of one call where it isn't
pub by_hollow : (P : List Item → Bool → Type 0) (f : ItemForm) (o : Option ℕ) (bs : List ℕ) → P [] true
    → ((b : ℕ) (cs : List ℕ) → bs ≡ b ∷ cs → P (map (char o) (b ∷ cs)) false) → P (whole f o bs ∷ []) false → OneOrChars f o bs
    → P (items_by f o bs) (hollow_by f bs)
by_hollow P f o [] n c w (inl h) =
    let e : true ≡ hollow_by f [] = sym (ap (λ v. v && 0 == 0) h.0) in
    subst (λ (v : Bool). P (items_by f o []) v) e (subst (λ (xs : List Item). P xs true) (sym h.1) n)
by_hollow P f o (b ∷ bs) n c w (inl h) =
    let e : false ≡ hollow_by f (b ∷ bs) = sym (ap (λ v. v && length (b ∷ bs) == 0) h.0 ∙ some_left (length bs)) in
    subst (λ (v : Bool). P (items_by f o (b ∷ bs)) v) e (subst (λ (xs : List Item). P xs false) (sym h.1) (c b bs refl))
by_hollow P f o bs n c w (inr h) =
    let e : false ≡ hollow_by f bs = sym (ap (λ v. v && length bs == 0) h.0) in
    subst (λ (v : Bool). P (items_by f o bs) v) e (subst (λ (xs : List Item). P xs false) (sym h.1) w)

last_chars : (o : Option ℕ) (bs : List ℕ) → last_of o (map (char o) bs) ≡ o
last_chars o [] = refl
last_chars o (b ∷ bs) = last_chars o bs

pub last_piece : (o : Option ℕ) (p : Piece) → last_of o (items_of p) ≡ cond (is_hollow p) o (call_of_origin p.origin)
last_piece o p =
    by_hollow (λ xs v. last_of o xs ≡ cond v o (call_of_origin p.origin)) p.form (call_of_origin p.origin) (bytes_of p.text) refl
    (λ b cs e. last_chars (call_of_origin p.origin) cs) refl
    (one_or_chars p.form (call_of_origin p.origin) (bytes_of p.text))

pub found_piece : (p : Piece) → first_found (items_of p) ≡ cond (is_hollow p) None (Some (call_of_origin p.origin))
found_piece p =
    by_hollow (λ xs v. first_found xs ≡ cond v None (Some (call_of_origin p.origin))) p.form (call_of_origin p.origin) (bytes_of p.text) refl
    (λ b cs e. refl) refl (one_or_chars p.form (call_of_origin p.origin) (bytes_of p.text))

all_chars : (o : Option ℕ) (b : ℕ) (bs : List ℕ) → list_all is_page (map (char o) (b ∷ bs)) ≡ is_no_call o
all_chars None b [] = refl
all_chars None b (c ∷ cs) = all_chars None c cs
all_chars (Some k) b bs = refl

any_chars : (o : Option ℕ) (b : ℕ) (bs : List ℕ) → list_any is_page (map (char o) (b ∷ bs)) ≡ is_no_call o
any_chars None b bs = refl
any_chars (Some k) b [] = refl
any_chars (Some k) b (c ∷ cs) = any_chars (Some k) c cs

one_all : (o : Option ℕ) (f : ItemForm) (bs : List ℕ) → list_all is_page (whole f o bs ∷ []) ≡ is_no_call o
one_all None f bs = refl
one_all (Some k) f bs = refl

one_any : (o : Option ℕ) (f : ItemForm) (bs : List ℕ) → list_any is_page (whole f o bs ∷ []) ≡ is_no_call o
one_any None f bs = refl
one_any (Some k) f bs = refl

pub all_piece : (p : Piece) → list_all is_page (items_of p) ≡ cond (is_hollow p) true (is_no_call (call_of_origin p.origin))
all_piece p =
    let o : Option ℕ = call_of_origin p.origin in
    by_hollow (λ xs v. list_all is_page xs ≡ cond v true (is_no_call o)) p.form o (bytes_of p.text) refl (λ b cs e. all_chars o b cs)
    (one_all o p.form (bytes_of p.text)) (one_or_chars p.form o (bytes_of p.text))

pub any_piece : (p : Piece) → list_any is_page (items_of p) ≡ cond (is_hollow p) false (is_no_call (call_of_origin p.origin))
any_piece p =
    let o : Option ℕ = call_of_origin p.origin in
    by_hollow (λ xs v. list_any is_page xs ≡ cond v false (is_no_call o)) p.form o (bytes_of p.text) refl (λ b cs e. any_chars o b cs)
    (one_any o p.form (bytes_of p.text)) (one_or_chars p.form o (bytes_of p.text))

-- ---- what stands on the page for one piece

pub page_parted : (o : Option ℕ) → parted o None ≡ true
page_parted None = refl
page_parted (Some k) = refl

pub same_parted : (k : ℕ) → parted (Some k) (Some k) ≡ false
same_parted k = let t : (k == k) ≡ true = grind (arith, nat_tests) in ap not t

page_chars : (calls : List OuterCall) (o : Option ℕ) (bs : List ℕ) → text_from calls o (map (char None) bs) ≡ bs
page_chars calls o [] = refl
page_chars calls o (b ∷ bs) = ap (λ v. cond v (b ∷ []) [] ++ text_from calls None (map (char None) bs)) (page_parted o)
    ∙ ap (λ cs. b ∷ cs) (page_chars calls None bs)

call_rest : (calls : List OuterCall) (k : ℕ) (bs : List ℕ) → text_from calls (Some k) (map (char (Some k)) bs) ≡ []
call_rest calls k [] = refl
call_rest calls k (b ∷ bs) = ap (λ v. cond v (source_of_call (slice_get calls k)) [] ++ text_from calls (Some k) (map (char (Some k)) bs)) (same_parted k)
    ∙ call_rest calls k bs

text_chars : (calls : List OuterCall) (o p : Option ℕ) (b : ℕ) (cs bs : List ℕ) → bs ≡ b ∷ cs
    → text_from calls o (map (char p) (b ∷ cs)) ≡ cond (parted o p) (text_by calls p bs) []
text_chars calls o None b cs bs e = page_chars calls o (b ∷ cs) ∙ sym e ∙ sym (ap (λ v. cond v bs []) (page_parted o))
text_chars calls o (Some k) b cs bs e =
    ap (λ xs. cond (parted o (Some k)) (source_of_call (slice_get calls k)) [] ++ xs) (call_rest calls k cs)
    ∙ append-nil (cond (parted o (Some k)) (source_of_call (slice_get calls k)) [])

pub text_piece : (calls : List OuterCall) (o : Option ℕ) (p : Piece)
    → text_from calls o (items_of p)
    ≡ cond (is_hollow p) [] (cond (parted o (call_of_origin p.origin)) (text_by calls (call_of_origin p.origin) (bytes_of p.text)) [])
text_piece calls o p =
    let q : Option ℕ = call_of_origin p.origin in
    let bs : List ℕ = bytes_of p.text in
    by_hollow (λ xs v. text_from calls o xs ≡ cond v [] (cond (parted o q) (text_by calls q bs) [])) p.form q bs refl
    (λ b cs e. text_chars calls o q b cs bs e) (append-nil (cond (parted o q) (text_by calls q bs) []))
    (one_or_chars p.form q bs)

-- ---- several pieces

pub items_append : (ps qs : List Piece) → items (ps ++ qs) ≡ items ps ++ items qs
items_append ps qs = flat_map-append items_of ps qs

pub items_more : (ps : List Piece) (p : Piece) → items (ps ++ p ∷ []) ≡ items ps ++ items_of p
items_more ps p = items_append ps (p ∷ []) ∙ ap (λ xs. items ps ++ xs) (append-nil (items_of p))

-- the pieces from one on, and up to one
pub items_turn : (ps : List Piece) (at : ℕ) (p : Piece) → at < length ps → p ≡ get_or ps at p
    → items (drop at ps) ≡ items_of p ++ items (drop (at + 1) ps)
items_turn ps at p l e = ap items (drop_more ps at p l) ∙ ap (λ q. items_of q ++ items (drop (at + 1) ps)) (sym e)

pub found_step : (ps : List Piece) (at : ℕ) (p : Piece) → at < length ps → p ≡ get_or ps at p
    → first_found (items (drop at ps)) ≡ cond (is_hollow p) (first_found (items (drop (at + 1) ps))) (Some (call_of_origin p.origin))
found_step ps at p l e =
    ap first_found (items_turn ps at p l e)
    ∙ found_append (items_of p) (items (drop (at + 1) ps))
    ∙ ap (λ f. either f (first_found (items (drop (at + 1) ps)))) (found_piece p)
    ∙ either_cond (is_hollow p) (call_of_origin p.origin) (first_found (items (drop (at + 1) ps)))
  where
    either_cond : (v : Bool) (o : Option ℕ) (r : Option (Option ℕ)) → either (cond v None (Some o)) r ≡ cond v r (Some o)
    either_cond true o r = refl
    either_cond false o r = refl

pub last_step : (ps : List Piece) (at : ℕ) (p : Piece) (o : Option ℕ) → at < length ps → p ≡ get_or ps at p
    → last_of o (items (take (at + 1) ps)) ≡ last_of (last_of o (items (take at ps))) (items_of p)
last_step ps at p o l e =
    ap (λ qs. last_of o (items qs)) (take_more ps at p l)
    ∙ ap (λ q. last_of o (items (take at ps ++ q ∷ []))) (sym e)
    ∙ ap (last_of o) (items_more (take at ps) p)
    ∙ last_append o (items (take at ps)) (items_of p)

pub all_step : (ps : List Piece) (at : ℕ) (p : Piece) → at < length ps → p ≡ get_or ps at p
    → list_all is_page (items (drop at ps)) ≡ (list_all is_page (items_of p) && list_all is_page (items (drop (at + 1) ps)))
all_step ps at p l e =
    ap (λ qs. list_all is_page (items qs)) (drop_more ps at p l)
    ∙ ap (λ q. list_all is_page (items_of q ++ items (drop (at + 1) ps))) (sym e)
    ∙ list_all-append is_page (items_of p) (items (drop (at + 1) ps))

pub any_step : (ps : List Piece) (at : ℕ) (p : Piece) → at < length ps → p ≡ get_or ps at p
    → list_any is_page (items (drop at ps)) ≡ (list_any is_page (items_of p) || list_any is_page (items (drop (at + 1) ps)))
any_step ps at p l e =
    ap (λ qs. list_any is_page (items qs)) (drop_more ps at p l)
    ∙ ap (λ q. list_any is_page (items_of q ++ items (drop (at + 1) ps))) (sym e)
    ∙ list_any-append is_page (items_of p) (items (drop (at + 1) ps))

pub text_step_pieces : (calls : List OuterCall) (ps : List Piece) (at : ℕ) (p : Piece) (o : Option ℕ) → at < length ps → p ≡ get_or ps at p
    → text_from calls o (items (take (at + 1) ps)) ≡ text_from calls o (items (take at ps)) ++ text_from calls (last_of o (items (take at ps))) (items_of p)
text_step_pieces calls ps at p o l e =
    ap (λ qs. text_from calls o (items qs)) (take_more ps at p l)
    ∙ ap (λ q. text_from calls o (items (take at ps ++ q ∷ []))) (sym e)
    ∙ ap (text_from calls o) (items_more (take at ps) p)
    ∙ text_append_from calls o (items (take at ps)) (items_of p)

pub found_here : (ps : List Piece) (at : ℕ) (p : Piece) (call : Option ℕ) (v : Bool) → at < length ps → p ≡ get_or ps at p → v ≡ is_hollow p → v ≡ false
    → call ≡ call_of_origin p.origin → first_found (items (drop at ps)) ≡ first_found (items ps) → Some call ≡ first_found (items ps)
found_here ps at p call true l e h n c i = cc
found_here ps at p call false l e h n c i =
    ap Some c ∙ ap (λ v. cond v (first_found (items (drop (at + 1) ps))) (Some (call_of_origin p.origin))) h ∙ sym (found_step ps at p l e) ∙ i

-- ---- one more piece of a loop

pub bytes_step : (calls : List OuterCall) (ps : List Piece) (at : ℕ) (p : Piece) (o last : Option ℕ) (xs ys bs : List ℕ) → at < length ps
    → p ≡ get_or ps at p → xs ≡ text_from calls o (items (take at ps)) → last ≡ last_of o (items (take at ps))
    → bs ≡ text_from calls last (items_of p) → ys ≡ xs ++ bs → ys ≡ text_from calls o (items (take (at + 1) ps))
bytes_step calls ps at p o last xs ys bs l e x t b y =
    y
    ∙ ap (λ cs. cs ++ bs) x
    ∙ ap (λ cs. text_from calls o (items (take at ps)) ++ cs) (b ∙ ap (λ q. text_from calls q (items_of p)) t)
    ∙ sym (text_step_pieces calls ps at p o l e)

pub call_step : (ps : List Piece) (at : ℕ) (p : Piece) (o last next : Option ℕ) → at < length ps → p ≡ get_or ps at p → last ≡ last_of o (items (take at ps))
    → next ≡ last_of last (items_of p) → next ≡ last_of o (items (take (at + 1) ps))
call_step ps at p o last next l e t n = n ∙ ap (λ q. last_of q (items_of p)) t ∙ sym (last_step ps at p o l e)
