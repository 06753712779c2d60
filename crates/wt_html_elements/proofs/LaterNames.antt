-- The names of the later attributes of a tag.
use Rattle.std.proofs.Common.{◌≡◌, ℕ, Bool, true, false, List, [], ◌∷◌, ◌++◌, refl, sym, ap, ◌∙◌, subst, map}
use Rattle.std.specs.Prelude.{◌||◌}
use Rattle.std.specs.BTreeSet.{insert_key}
use Rattle.std.specs.Ordering.{is_eq, match_ordering, nat_cmp}
use Rattle.std.specs.declared.cmp.Ordering.{Ordering}
use Rattle.std.specs.declared.cmp.Ordering.TheVariants.{Less, Equal, Greater}
use Rattle.std.specs.List.{list_any}
use Rattle.std.specs.Cmp.Lexicographic.{slice_cmp}
use Rattle.std.specs.Str.{bytes_eq}
use Rattle.std.proofs.lemmas.List.{map-append}
use Rattle.std.proofs.lemmas.Map.Text.{is_eq-slice_cmp}
use Rattle.std.proofs.lemmas.Slice.Eq.{bytes_eq-Decides}
use Rattle.wt_html_grammar.specs.Signs.{is_among}
use Rattle.wt_html_grammar.specs.Markup.{Pair}
use Rattle.wt_html_elements.specs.Later.{AreNames}

-- the name and the value of what is kept
abbrev pair_by : {V : Type 0} → (V → List ℕ) → (V → List ℕ) → V → Pair
pair_by name value x = (name x, value x)

abbrev names_of : List Pair → List (List ℕ)
names_of ps = map (λ p. p.0) ps

or_swap : (a b c : Bool) → (a || (b || c)) ≡ (b || (a || c))
or_swap true true c = refl
or_swap true false c = refl
or_swap false b c = refl

or_twice : (a b : Bool) → (a || b) ≡ (a || (a || b))
or_twice true b = refl
or_twice false b = refl

-- the set is asked as the list of its texts is
pub any_text : {K : Type 0} (text : K → List ℕ) (name : List ℕ) (ks : List K)
    → list_any (λ k. is_eq (slice_cmp nat_cmp name (text k))) ks ≡ is_among name (map text ks)
any_text text name [] = refl
any_text text name (k ∷ ks) =
    ap (λ b. b || list_any (λ y. is_eq (slice_cmp nat_cmp name (text y))) ks) (is_eq-slice_cmp name (text k))
    ∙ ap (λ b. bytes_eq name (text k) || b) (any_text text name ks)

-- a key that is put at its place is there, and so are the others
put_among : {K : Type 0} (text : K → List ℕ) (cmp : K → K → Ordering) → ((x y : K) → cmp x y ≡ slice_cmp nat_cmp (text x) (text y)) → (q : List ℕ)
    → (ks : List K) (k : K) → is_among q (map text (insert_key cmp ks k)) ≡ (bytes_eq q (text k) || is_among q (map text ks))
put_among text cmp same q [] k = refl
put_among text cmp same q (x ∷ ks) k = by (cmp k x) refl (put_among text cmp same q ks k)
  where
    equal : cmp k x ≡ Equal → text k ≡ text x
    equal e = (bytes_eq-Decides (text k) (text x)).0 (sym (is_eq-slice_cmp (text k) (text x)) ∙ ap is_eq (sym (same k x) ∙ e))

    by : (o : Ordering) → cmp k x ≡ o → is_among q (map text (insert_key cmp ks k)) ≡ (bytes_eq q (text k) || is_among q (map text ks))
        → is_among q (map text (match_ordering o (k ∷ x ∷ ks) (x ∷ ks) (x ∷ insert_key cmp ks k)))
        ≡ (bytes_eq q (text k) || (bytes_eq q (text x) || is_among q (map text ks)))
    by Less e h = refl
    by Equal e h =
        subst (λ (t : List ℕ). (bytes_eq q (text x) || is_among q (map text ks)) ≡ (bytes_eq q t || (bytes_eq q (text x) || is_among q (map text ks))))
        (sym (equal e)) (or_twice (bytes_eq q (text x)) (is_among q (map text ks)))
    by Greater e h = ap (λ b. bytes_eq q (text x) || b) h ∙ or_swap (bytes_eq q (text x)) (bytes_eq q (text k)) (is_among q (map text ks))

-- the last of several
among_last : (q name value : List ℕ) (ps : List Pair) → is_among q (names_of (ps ++ (name, value) ∷ [])) ≡ (bytes_eq q name || is_among q (names_of ps))
among_last q name value [] = refl
among_last q name value (p ∷ ps) =
    ap (λ b. bytes_eq q p.0 || b) (among_last q name value ps) ∙ or_swap (bytes_eq q p.0) (bytes_eq q name) (is_among q (names_of ps))

-- no names of no attributes
pub none_known : {K V : Type 0} (text : K → List ℕ) (name value : V → List ℕ) (ks : List K) (vs : List V) → ks ≡ [] → vs ≡ []
    → AreNames (map text ks) (map (pair_by name value) vs)
none_known text name value ks vs e f = λ q.
    ap (λ xs. is_among q (map text xs)) e ∙ ap (λ xs. is_among q (names_of (map (pair_by name value) xs))) (sym f)

-- one more of both
pub known_more : {K V : Type 0} (text : K → List ℕ) (name value : V → List ℕ) (cmp : K → K → Ordering)
    → ((x y : K) → cmp x y ≡ slice_cmp nat_cmp (text x) (text y)) → (ks new : List K) (k : K) (vs more : List V) (v : V)
    → new ≡ insert_key cmp ks k → more ≡ vs ++ v ∷ [] → text k ≡ name v
    → AreNames (map text ks) (map (pair_by name value) vs) → AreNames (map text new) (map (pair_by name value) more)
known_more text name value cmp same ks new k vs more v n m e h = λ q.
    let rest = is_among q (names_of (map (pair_by name value) vs)) in
    ap (λ xs. is_among q (map text xs)) n
    ∙ put_among text cmp same q ks k
    ∙ ap (λ b. bytes_eq q (text k) || b) (h q)
    ∙ ap (λ (t : List ℕ). bytes_eq q t || rest) e
    ∙ sym (among_last q (name v) (value v) (map (pair_by name value) vs))
    ∙ ap (λ (ps : List Pair). is_among q (names_of ps)) (sym (map-append (pair_by name value) vs (v ∷ [])))
    ∙ ap (λ xs. is_among q (names_of (map (pair_by name value) xs))) (sym m)
