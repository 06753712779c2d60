-- An object whose keys are all among some has these and no others, in their order.
use Rattle.std.proofs.Common.{◌≡◌, refl, sym, ◌∙◌, ap, subst, ℕ, Bool, true, false, Option, Some, None, List, [], ◌∷◌}
use Rattle.std.specs.Prelude.{◌&&◌, ◌||◌, is_some, option_and_then}
use Rattle.std.specs.List.{AllByRecursion}
use Rattle.std.specs.Str.{bytes_eq}
use Rattle.std.specs.Ordering.{nat_cmp, ordering_reverse, is_eq}
use Rattle.std.specs.Cmp.Lexicographic.{slice_cmp}
use Rattle.std.specs.declared.cmp.Ordering.{Ordering}
use Rattle.std.specs.declared.cmp.Ordering.TheVariants.{Less, Equal, Greater}
use Rattle.std.proofs.lemmas.Cmp.{nat_list_cmp_total}
use Rattle.std.proofs.lemmas.Map.Text.{is_eq-slice_cmp}
use Rattle.std.proofs.lemmas.Slice.Eq.{bytes_eq-Decides}
use Rattle.serde_json.specs.Data.{Data, null, boolean, number, string, array, object, Members, no_members, member}
use Rattle.serde_json.specs.Find.{get_member, as_str}
use Rattle.wt_datamw.specs.SyncRead.{only_keys, is_among}
use Rattle.wt_page_laws.proofs.Tidy.{Above, above_more, Sorted}

abbrev pub pick : List ℕ → Option Data → Members → Members
pick k None ms = ms
pick k (Some d) ms = member k d ms

-- the members under these keys
abbrev pub picked : List (List ℕ) → Members → Members
picked [] ms = no_members
picked (k ∷ ks) ms = pick k (get_member k ms) (picked ks ms)

abbrev Below : List ℕ → List (List ℕ) → Type 0
Below k ks = AllByRecursion (λ l. slice_cmp nat_cmp k l ≡ Less) ks

-- keys in byte order
abbrev pub InOrder : List (List ℕ) → Type 0
InOrder [] = Unit {0}
InOrder (k ∷ ks) = Below k ks × InOrder ks

pub both : (a b : Bool) → (a && b) ≡ true → (a ≡ true) × (b ≡ true)
both true true e = (refl, refl)
both true false e = cc
both false b e = cc

turned : (k l : List ℕ) → slice_cmp nat_cmp k l ≡ Less → slice_cmp nat_cmp l k ≡ Greater
turned k l e = nat_list_cmp_total.antisymm l k ∙ ap ordering_reverse e

back : (k l : List ℕ) → slice_cmp nat_cmp k l ≡ Greater → slice_cmp nat_cmp l k ≡ Less
back k l e = nat_list_cmp_total.antisymm l k ∙ ap ordering_reverse e

-- ---- keys that differ

other_key : (k l : List ℕ) (o : Ordering) → slice_cmp nat_cmp k l ≡ o → is_eq o ≡ false → bytes_eq k l ≡ false
other_key k l o e h = sym (is_eq-slice_cmp k l) ∙ ap is_eq e ∙ h

drop_key : (k : List ℕ) (ks : List (List ℕ)) (ms : Members) → Above k ms → only_keys (is_among (k ∷ ks)) ms ≡ true → only_keys (is_among ks) ms ≡ true
drop_key k ks no_members a h = refl
drop_key k ks (member l d ms) a h =
    let t = both (is_among (k ∷ ks) l) (only_keys (is_among (k ∷ ks)) ms) h in
    let no : bytes_eq k l ≡ false = other_key k l Less a.0 refl in
    let there : is_among ks l ≡ true = ap (λ x. x || is_among ks l) (sym no) ∙ t.0 in
    ap (λ x. x && only_keys (is_among ks) ms) there ∙ drop_key k ks ms a.1 t.1

not_among : (l : List ℕ) (ks : List (List ℕ)) → Below l ks → is_among ks l ≡ false
not_among l [] b = refl
not_among l (k ∷ ks) b =
    ap (λ x. x || is_among ks l) (other_key k l Greater (turned l k b.0) refl) ∙ not_among l ks b.1

pub no_member : (k : List ℕ) (ms : Members) → Above k ms → get_member k ms ≡ None
no_member k no_members a = refl
no_member k (member l d ms) a = rw (a.0, no_member k ms a.1) refl

-- ---- the members

none_picked : (ks : List (List ℕ)) → picked ks no_members ≡ no_members
none_picked [] = refl
none_picked (k ∷ ks) = none_picked ks

pass_member : (ks : List (List ℕ)) (l : List ℕ) (d : Data) (ms : Members) → Below l ks → picked ks (member l d ms) ≡ picked ks ms
pass_member [] l d ms b = refl
pass_member (k ∷ ks) l d ms b =
    let g : get_member k (member l d ms) ≡ get_member k ms = rw (turned l k b.0) refl in
    rw (g, pass_member ks l d ms b.1) refl

below_more : (j k : List ℕ) (ks : List (List ℕ)) → slice_cmp nat_cmp j k ≡ Less → Below k ks → Below j ks
below_more j k [] e b = tt
below_more j k (l ∷ ks) e b = (nat_list_cmp_total.trans j k l e b.0, below_more j k ks e b.1)

abbrev Listed : List (List ℕ) → Members → Type 0
Listed ks ms = only_keys (is_among ks) ms ≡ true

equal_key : (k l : List ℕ) → slice_cmp nat_cmp k l ≡ Equal → k ≡ l
equal_key k l e = (bytes_eq-Decides k l).0 (sym (is_eq-slice_cmp k l) ∙ ap is_eq e)

abbrev Rebuilt : List (List ℕ) → Type 0
Rebuilt ks = (ms : Members) → Sorted ms → Listed ks ms → ms ≡ picked ks ms

at_key : (k : List ℕ) (ks : List (List ℕ)) (d : Data) (ms : Members) → Rebuilt ks → Sorted (member k d ms) → Below k ks
    → Listed (k ∷ ks) ms → slice_cmp nat_cmp k k ≡ Equal → member k d ms ≡ picked (k ∷ ks) (member k d ms)
at_key k ks d ms again s o h e =
    let rest : ms ≡ picked ks ms = again ms s.2 (drop_key k ks ms s.0 h) in
    let passed : picked ks (member k d ms) ≡ picked ks ms = pass_member ks k d ms o in
    let g : get_member k (member k d ms) ≡ Some d = rw e refl in
    let found : picked (k ∷ ks) (member k d ms) ≡ member k d (picked ks ms) =
    ap (λ x. pick k x (picked ks (member k d ms))) g ∙ ap (member k d) passed in
    ap (member k d) rest ∙ sym found

moved : (k l : List ℕ) (ks : List (List ℕ)) (d : Data) (ms : Members) → k ≡ l → member k d ms ≡ picked (k ∷ ks) (member k d ms)
    → member l d ms ≡ picked (k ∷ ks) (member l d ms)
moved k l ks d ms same h = subst (λ x. member x d ms ≡ picked (k ∷ ks) (member x d ms)) same h

step : (k l : List ℕ) (ks : List (List ℕ)) (d : Data) (ms : Members) (r : Ordering) → slice_cmp nat_cmp k l ≡ r → Rebuilt ks
    → Sorted (member l d ms) → Below k ks → Listed (k ∷ ks) (member l d ms) → member l d ms ≡ picked (k ∷ ks) (member l d ms)
step k l ks d ms Less e again s o h =
    let a : Above k (member l d ms) = (e, above_more k l ms e s.0) in
    let g : get_member k (member l d ms) ≡ None = no_member k (member l d ms) a in
    again (member l d ms) s (drop_key k ks (member l d ms) a h) ∙ sym (ap (λ x. pick k x (picked ks (member l d ms))) g)
step k l ks d ms Equal e again s o h =
    let same : k ≡ l = equal_key k l e in
    let t = both (is_among (k ∷ ks) l) (only_keys (is_among (k ∷ ks)) ms) h in
    let a : Sorted (member k d ms) = subst (λ x. Sorted (member x d ms)) (sym same) s in
    moved k l ks d ms same (at_key k ks d ms again a o t.1 (ap (slice_cmp nat_cmp k) same ∙ e))
step k l ks d ms Greater e again s o h =
    let t = both (is_among (k ∷ ks) l) (only_keys (is_among (k ∷ ks)) ms) h in
    let below : slice_cmp nat_cmp l k ≡ Less = back k l e in
    let none : is_among (k ∷ ks) l ≡ false = not_among l (k ∷ ks) (below, below_more l k ks below o) in
    absurd (let q : true ≡ false = sym t.0 ∙ none in cc)

pub fields : (ks : List (List ℕ)) (ms : Members) → Sorted ms → InOrder ks → Listed ks ms → ms ≡ picked ks ms
fields [] no_members s o h = refl
fields [] (member l d ms) s o h = cc
fields (k ∷ ks) no_members s o h = sym (none_picked ks)
fields (k ∷ ks) (member l d ms) s o h =
    step k l ks d ms (slice_cmp nat_cmp k l) refl (λ rest t g. fields ks rest t o.1 g) s o.0 h

-- ---- a text under a key

pub text_there : (o : Option Data) → is_some (option_and_then as_str o) ≡ true → (text : List ℕ) × (o ≡ Some (string text))
text_there None h = cc
text_there (Some null) h = cc
text_there (Some (boolean b)) h = cc
text_there (Some (number n)) h = cc
text_there (Some (string s)) h = (s, refl)
text_there (Some (array ds)) h = cc
text_there (Some (object ms)) h = cc
