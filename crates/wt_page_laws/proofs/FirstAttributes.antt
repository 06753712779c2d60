-- The attributes that items give are the first of their names among those that are read.
use Rattle.std.proofs.Common.{arith, ◌≡◌, ◌≢◌, ◌⊎◌, ℕ, suc, ◌≤◌, Bool, true, false, Option, Some, None, List, [], ◌∷◌, drop, refl, sym, ap, ◌∙◌, subst, inl, inr, true≢false}
use Rattle.std.specs.Prelude.{option_map, filter_map, if◌then◌else◌}
use Rattle.std.specs.List.{cons_option}
use Rattle.wt_span.specs.Bytes.{lower}
use Rattle.wt_span.specs.Items.{Item}
use Rattle.wt_tree.specs.Kinds.{order}
use Rattle.wt_tree.specs.declared.kind.AttrName.{AttrName}
use Rattle.wt_tree.specs.declared.kind.AttrName.TheVariants as attr
use Rattle.wt_tree.specs.contracts.kind.AttrName.{the_type}
use denote.Enum.Bare.{same_true, true_same}
use Rattle.wt_attributes.specs.Attributes.{Named, attributes, attributes_in, names, named_in, readings, same_name, value_of}
use Rattle.wt_attributes.specs.Characters.{text_of}
use Rattle.wt_attributes.specs.Spelled.{AreReadings, IsName}
use Rattle.wt_attributes.proofs.Inverted.{IsWritten, attribute_written}
use Rattle.wt_attributes.proofs.Orders.{readings_are}
use Rattle.wt_page_laws.specs.FirstAttributes.{IsAmong, IsFirstOf, AreInOrder, AreFirstOfNames}

-- ---- names

is_same : (m n : AttrName) → same_name m n ≡ true → m ≡ n
is_same m n e = same_true the_type tt m n e

same_itself : (m n : AttrName) → m ≡ n → same_name m n ≡ true
same_itself m n e = true_same the_type m n e

is_other : (m n : AttrName) → n ≢ m → same_name m n ≡ false
is_other m n h = by (same_name m n) refl
  where
    by : (b : Bool) → same_name m n ≡ b → b ≡ false
    by true e = absurd (h (sym (is_same m n e)))
    by false e = refl

-- ---- the first value of a name

value_first : (n : AttrName) (rs : List Named) (v : List ℕ) → value_of n rs ≡ Some v → IsFirstOf (n, v) rs
value_first n [] v e = absurd (cc)
value_first n ((m, w) ∷ rs) v e = by (same_name m n) refl e (λ f. value_first n rs v f)
  where
    some_is : (x y : List ℕ) → Some x ≡ Some y → x ≡ y
    some_is x y f = cc

    by : (b : Bool) → same_name m n ≡ b → (if b then Some w else value_of n rs) ≡ Some v → (value_of n rs ≡ Some v → IsFirstOf (n, v) rs)
        → IsFirstOf (n, v) ((m, w) ∷ rs)
    by true t f g =
        let first : (n, v) ≡ (m, w) = ap (λ (k : AttrName). (k, v)) (sym (is_same m n t)) ∙ ap (λ (x : List ℕ). (m, x)) (sym (some_is w v f)) in
        inl first
    by false t f g = inr ((λ e. true≢false (sym (same_itself m n (sym e)) ∙ t)), g f)

first_value : (n : AttrName) (rs : List Named) (v : List ℕ) → IsFirstOf (n, v) rs → value_of n rs ≡ Some v
first_value n [] v h = absurd h
first_value n ((m, w) ∷ rs) v (inl e) =
    let name : m ≡ n = ap (λ (a : Named). a.0) (sym e) in
    let value : w ≡ v = ap (λ (a : Named). a.1) (sym e) in
    ap (λ (b : Bool). if b then Some w else value_of n rs) (same_itself m n name) ∙ ap (λ (x : List ℕ). Some x) value
first_value n ((m, w) ∷ rs) v (inr h) =
    ap (λ (b : Bool). if b then Some w else value_of n rs) (is_other m n h.0) ∙ first_value n rs v h.1

-- ---- those that are given

abbrev IsThere : AttrName → List AttrName → Type 0
IsThere n [] = ⊥
IsThere n (m ∷ ms) = (n ≡ m) ⊎ IsThere n ms

given_by : (n : AttrName) (rs others : List Named) (a : Named) (o : Option (List ℕ)) → value_of n rs ≡ o
    → IsAmong a (cons_option (option_map (λ (v : List ℕ). (n, v)) o) others) → (IsAmong a others → IsFirstOf a rs) → IsFirstOf a rs
given_by n rs others a None e h f = f h
given_by n rs others a (Some v) e (inl is) f = subst (λ (b : Named). IsFirstOf b rs) (sym is) (value_first n rs v e)
given_by n rs others a (Some v) e (inr h) f = f h

given_first : (rs : List Named) (ns : List AttrName) (a : Named) → IsAmong a (filter_map (named_in rs) ns) → IsFirstOf a rs
given_first rs [] a h = absurd h
given_first rs (n ∷ ns) a h = given_by n rs (filter_map (named_in rs) ns) a (value_of n rs) refl h (λ g. given_first rs ns a g)

after_one : (n : AttrName) (o : Option (List ℕ)) (others : List Named) (a : Named) → IsAmong a others
    → IsAmong a (cons_option (option_map (λ (v : List ℕ). (n, v)) o) others)
after_one n None others a h = h
after_one n (Some v) others a h = inr h

is_given : (rs : List Named) (ns : List AttrName) (n : AttrName) (v : List ℕ) → value_of n rs ≡ Some v → IsThere n ns
    → IsAmong (n, v) (filter_map (named_in rs) ns)
is_given rs [] n v e h = absurd h
is_given rs (m ∷ ms) n v e (inl is) =
    let others : List Named = filter_map (named_in rs) ms in
    subst (λ (k : AttrName). IsAmong (n, v) (cons_option (named_in rs k) others)) is
    (subst (λ (o : Option (List ℕ)). IsAmong (n, v) (cons_option (option_map (λ (w : List ℕ). (n, w)) o) others)) (sym e) (inl refl))
is_given rs (m ∷ ms) n v e (inr h) = after_one m (value_of m rs) (filter_map (named_in rs) ms) (n, v) (is_given rs ms n v e h)

-- ---- their order

later_too : (k n : ℕ) (rest : List Named) → k ≤ n → AreInOrder n rest → AreInOrder k rest
later_too k n [] le h = tt
later_too k n (a ∷ rest) le h = let g = h.0 in (omega (arith, le, g), h.1)

one_more : (n : AttrName) (o : Option (List ℕ)) (k : ℕ) (rest : List Named) → k ≤ order n → AreInOrder (suc (order n)) rest
    → AreInOrder k (cons_option (option_map (λ (v : List ℕ). (n, v)) o) rest)
one_more n None k rest le h = later_too k (suc (order n)) rest (omega (arith, le)) h
one_more n (Some v) k rest le h = (le, h)

-- the names from these on, in their order
abbrev Rise : ℕ → List AttrName → Type 0
Rise k [] = Unit {0}
Rise k (n ∷ ns) = (k ≤ order n) × Rise (suc (order n)) ns

in_order : (rs : List Named) (k : ℕ) (ns : List AttrName) → Rise k ns → AreInOrder k (filter_map (named_in rs) ns)
in_order rs k [] h = tt
in_order rs k (n ∷ ns) h = one_more n (value_of n rs) k (filter_map (named_in rs) ns) h.0 (in_order rs (suc (order n)) ns h.1)

names_rise : Rise 0 names
names_rise = (omega arith, (omega arith, (omega arith, (omega arith, (omega arith, (omega arith, tt))))))

-- ---- only names that count are read

name_counts : (n : AttrName) (w : List ℕ) → IsName n w → IsThere n names
name_counts attr.About w h = absurd h
name_counts attr.Typeof w h = absurd h
name_counts attr.Property w h = absurd h
name_counts attr.Rel w h = absurd h
name_counts attr.Href w h = absurd h
name_counts attr.Class w h = inl refl
name_counts attr.Colspan w h = inr (inl refl)
name_counts attr.Rowspan w h = inr (inr (inl refl))
name_counts attr.Scope w h = inr (inr (inr (inl refl)))
name_counts attr.Lang w h = inr (inr (inr (inr (inl refl))))
name_counts attr.Dir w h = inr (inr (inr (inr (inr (inl refl)))))
name_counts attr.Id w h = absurd h
name_counts attr.DataMw w h = absurd h
name_counts attr.DataParsoid w h = absurd h

read_counts : (bs : List ℕ) (a : Named) (rest : List ℕ) → IsWritten bs a rest → IsThere a.0 names
read_counts bs a rest w =
    subst (λ (n : AttrName). IsThere n names) (sym (ap (λ (b : Named). b.0) w.means)) (name_counts w.it.name (lower w.it.word) w.good.named)

all_count : (fresh : Bool) (rs : List Named) (bs : List ℕ) → AreReadings fresh rs bs → (a : Named) → IsFirstOf a rs → IsThere a.0 names
all_count fresh [] bs r a h = absurd h
all_count fresh (b ∷ rs) bs r a (inl e) =
    subst (λ (c : Named). IsThere c.0 names) (sym e) (read_counts (drop r.0 bs) b r.1 (attribute_written (drop r.0 bs) b r.1 r.5))
all_count fresh (b ∷ rs) bs r a (inr h) = all_count false rs r.1 r.6 a h.1

-- ---- of items

all_given : (rs : List Named) (a : Named) → IsFirstOf a rs → IsThere a.0 names → IsAmong a (attributes_in rs)
all_given rs (n, v) h t = is_given rs names n v (first_value n rs v h) t

pub are_first : (xs : List Item) → AreFirstOfNames (readings true 0 (text_of xs)) (attributes xs)
unfolding attributes
are_first xs =
    let bs : List ℕ = text_of xs in
    let rs : List Named = readings true 0 bs in
    record {
      each = λ a h. given_first rs names a h;
      all = λ a h. all_given rs a h (all_count true rs bs (readings_are true 0 bs) a h);
      ordered = in_order rs 0 names names_rise;
    }
