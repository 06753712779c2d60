-- Entities that are cut out of their text are whole by themselves.
use Rattle.std.proofs.Common.{◌≡◌, ℕ, ◌+◌, ◌-◌, ◌⊎◌, ◌==◌, Bool, true, false, cond, Option, Some, None, List, [], ◌∷◌, length, get_or, take, drop, nat_lt, nat_le, refl, sym, ap, ◌∙◌, ⊎_elim, inl, inr, arith, codes}
use Rattle.std.specs.Prelude.{if◌then◌else◌, ◌&&◌, ◌||◌}
use Rattle.std.specs.Option.{option_or}
use Rattle.std.specs.Char.{is_ascii_digit, is_ascii_hexdigit}
use Rattle.std.specs.List.{prefix_len}
use Rattle.std.specs.Str.Parse.{digits_value}
use Rattle.std.proofs.lemmas.List.{get_or-drop, take-take}
use Rattle.wt_span.specs.Bytes.{begins}
use Rattle.wt_span.specs.Entities.{named_in, entity_names, named_entity, is_entity_number, numbered, decimal_entity, hex_entity, entity_at}
use Rattle.wt_lex.proofs.Begins.{begins_get}
use Rattle.wt_lex.proofs.Fronts.{drop_front, begins_front, begins_none, prefix_front, byte_front}

abbrev Entity : Type 0
Entity = ℕ × ℕ

or_entity : (o p : Option Entity) (x : Entity) → option_or o p ≡ Some x → (o ≡ Some x) ⊎ ((o ≡ None) × (p ≡ Some x))
or_entity None p x e = inr (refl, e)
or_entity (Some y) p x e = inl e

some_same : (y z : Entity) → Some y ≡ Some z → y ≡ z
some_same y z e = cc

named_front : (table : List (List ℕ × ℕ)) (bs : List ℕ) (x : Entity) → named_in table bs ≡ Some x → named_in table (take x.1 bs) ≡ Some x
named_front [] bs x e = cc
named_front ((name, c) ∷ entries) bs x e = by (begins name bs) refl e (named_front entries bs x)
  where
    by : (t : Bool) → begins name bs ≡ t → (if t then Some (c, length name) else named_in entries bs) ≡ Some x
        → (named_in entries bs ≡ Some x → named_in entries (take x.1 bs) ≡ Some x)
        → (if begins name (take x.1 bs) then Some (c, length name) else named_in entries (take x.1 bs)) ≡ Some x
    by true h e rest =
        let size : length name ≡ x.1 = ap (λ (y : Entity). y.1) (some_same (c, length name) x e) in
        ap (λ (t : Bool). if t then Some (c, length name) else named_in entries (take x.1 bs)) (begins_front name bs x.1 (omega arith) h) ∙ e
    by false h e rest = ap (λ (t : Bool). if t then Some (c, length name) else named_in entries (take x.1 bs)) (begins_none name bs x.1 h) ∙ rest e

named_none : (table : List (List ℕ × ℕ)) (bs : List ℕ) (m : ℕ) → named_in table bs ≡ None → named_in table (take m bs) ≡ None
named_none [] bs m e = refl
named_none ((name, c) ∷ entries) bs m e = by (begins name bs) refl e (named_none entries bs m)
  where
    by : (t : Bool) → begins name bs ≡ t → (if t then Some (c, length name) else named_in entries bs) ≡ None
        → (named_in entries bs ≡ None → named_in entries (take m bs) ≡ None)
        → (if begins name (take m bs) then Some (c, length name) else named_in entries (take m bs)) ≡ None
    by true h e rest = cc
    by false h e rest = ap (λ (t : Bool). if t then Some (c, length name) else named_in entries (take m bs)) (begins_none name bs m h) ∙ rest e

-- the number by how many digits there are, the byte after them and what they write
abbrev number_by : ℕ → ℕ → ℕ → ℕ → ℕ → Option Entity
number_by start most n byte c = if nat_lt 0 n && (nat_le n most && (byte == 59 && is_entity_number c)) then Some (c, start + n + 1) else None

number_size : (start most n byte c : ℕ) (x : Entity) → number_by start most n byte c ≡ Some x → start + n + 1 ≡ x.1
number_size start most n byte c x e = by (nat_lt 0 n && (nat_le n most && (byte == 59 && is_entity_number c))) e
  where
    by : (t : Bool) → (if t then Some (c, start + n + 1) else None) ≡ Some x → start + n + 1 ≡ x.1
    by true e = let same : (c, start + n + 1) ≡ x = cc in ap (λ (y : Entity). y.1) same
    by false e = cc

number_front : (start most base : ℕ) (is_digit : ℕ → Bool) (bs : List ℕ) (x : Entity)
    → numbered start most base is_digit bs ≡ Some x → numbered start most base is_digit (take x.1 bs) ≡ Some x
number_front start most base is_digit bs x e =
    let n = prefix_len is_digit (drop start bs) in
    let m = x.1 in
    let digits = take n (drop start bs) in
    let size = number_size start most n (get_or bs (start + n) 0) (digits_value base digits) x e in
    let cut : drop start (take m bs) ≡ take (m - start) (drop start bs) = drop_front start m bs (omega arith) in
    let run : prefix_len is_digit (drop start (take m bs)) ≡ n = ap (prefix_len is_digit) cut
    ∙ prefix_front is_digit (drop start bs) (m - start) (omega arith) in
    let same : take n (drop start (take m bs)) ≡ digits = ap (take n) cut ∙ take-take n (m - start) (drop start bs) (omega arith) in
    ap (λ (i : ℕ). number_by start most i (get_or (take m bs) (start + i) 0) (digits_value base (take i (drop start (take m bs))))) run
    ∙ ap (λ (b : ℕ). number_by start most n b (digits_value base (take n (drop start (take m bs))))) (byte_front bs m (start + n) (omega arith))
    ∙ ap (λ (ds : List ℕ). number_by start most n (get_or bs (start + n) 0) (digits_value base ds)) same ∙ e

started : (sign : List ℕ) (bs : List ℕ) (o : Option Entity) (x : Entity) → (if begins sign bs then o else None) ≡ Some x
    → (begins sign bs ≡ true) × (o ≡ Some x)
started sign bs o x e = by (begins sign bs) e
  where
    by : (t : Bool) → (if t then o else None) ≡ Some x → (t ≡ true) × (o ≡ Some x)
    by true e = (refl, e)
    by false e = cc

decimal_front : (bs : List ℕ) (x : Entity) → decimal_entity bs ≡ Some x → decimal_entity (take x.1 bs) ≡ Some x
unfolding decimal_entity
decimal_front bs x e =
    let is = started (codes "&#") bs (numbered 2 7 10 is_ascii_digit bs) x e in
    let n = prefix_len is_ascii_digit (drop 2 bs) in
    let size = number_size 2 7 n (get_or bs (2 + n) 0) (digits_value 10 (take n (drop 2 bs))) x is.1 in
    ap (λ (t : Bool). if t then numbered 2 7 10 is_ascii_digit (take x.1 bs) else None) (begins_front (codes "&#") bs x.1 (omega arith) is.0)
    ∙ number_front 2 7 10 is_ascii_digit bs x is.1

-- no digit comes first
no_run : (p : ℕ → Bool) (xs : List ℕ) → p (get_or xs 0 0) ≡ false → prefix_len p xs ≡ 0
no_run p [] e = refl
no_run p (b ∷ xs) e = ap (λ (t : Bool). cond t (1 + prefix_len p xs) 0) e

no_decimal : (bs : List ℕ) → is_ascii_digit (get_or bs 2 0) ≡ false → decimal_entity bs ≡ None
unfolding decimal_entity
no_decimal bs e =
    let none = no_run is_ascii_digit (drop 2 bs) (ap is_ascii_digit (get_or-drop 2 bs 0 0) ∙ e) in
    ap (λ (o : Option Entity). if begins (codes "&#") bs then o else None)
    (ap (λ (i : ℕ). number_by 2 7 i (get_or bs (2 + i) 0) (digits_value 10 (take i (drop 2 bs)))) none) ∙ never (begins (codes "&#") bs)
  where
    never : (t : Bool) → ◌≡◌ {A = Option Entity} (if t then None else None) None
    never true = refl
    never false = refl

hex_is : (bs : List ℕ) (x : Entity) → hex_entity bs ≡ Some x
    → ((begins (codes "&#x") bs ≡ true) ⊎ (begins (codes "&#X") bs ≡ true)) × (numbered 3 6 16 is_ascii_hexdigit bs ≡ Some x)
unfolding hex_entity
hex_is bs x e = by (begins (codes "&#x") bs) (begins (codes "&#X") bs) e
  where
    by : (t u : Bool) → (if t || u then numbered 3 6 16 is_ascii_hexdigit bs else None) ≡ Some x
        → ((t ≡ true) ⊎ (u ≡ true)) × (numbered 3 6 16 is_ascii_hexdigit bs ≡ Some x)
    by true u e = (inl refl, e)
    by false true e = (inr refl, e)
    by false false e = cc

hex_when : (bs : List ℕ) → ((begins (codes "&#x") bs ≡ true) ⊎ (begins (codes "&#X") bs ≡ true)) → hex_entity bs ≡ numbered 3 6 16 is_ascii_hexdigit bs
unfolding hex_entity
hex_when bs h = by (begins (codes "&#x") bs) (begins (codes "&#X") bs) h
  where
    by : (t u : Bool) → ((t ≡ true) ⊎ (u ≡ true)) → (if t || u then numbered 3 6 16 is_ascii_hexdigit bs else None) ≡ numbered 3 6 16 is_ascii_hexdigit bs
    by true u h = refl
    by false true h = refl
    by false false (inl e) = cc
    by false false (inr e) = cc

hex_front : (bs : List ℕ) (x : Entity) → hex_entity bs ≡ Some x → (hex_entity (take x.1 bs) ≡ Some x) × (decimal_entity (take x.1 bs) ≡ None)
hex_front bs x e =
    let is = hex_is bs x e in
    let n = prefix_len is_ascii_hexdigit (drop 3 bs) in
    let size = number_size 3 6 n (get_or bs (3 + n) 0) (digits_value 16 (take n (drop 3 bs))) x is.1 in
    let third : is_ascii_digit (get_or bs 2 0) ≡ false =
    ⊎_elim (λ h. ap is_ascii_digit (begins_get (codes "&#x") bs h 2 (omega arith)))
    (λ h. ap is_ascii_digit (begins_get (codes "&#X") bs h 2 (omega arith))) is.0 in
    let starts : (begins (codes "&#x") (take x.1 bs) ≡ true) ⊎ (begins (codes "&#X") (take x.1 bs) ≡ true) =
    ⊎_elim (λ h. inl (begins_front (codes "&#x") bs x.1 (omega arith) h)) (λ h. inr (begins_front (codes "&#X") bs x.1 (omega arith) h)) is.0 in (
      hex_when (take x.1 bs) starts ∙ number_front 3 6 16 is_ascii_hexdigit bs x is.1,
      no_decimal (take x.1 bs) (ap is_ascii_digit (byte_front bs x.1 2 (omega arith)) ∙ third),
    )

entity_is : (bs : List ℕ) → entity_at bs ≡ option_or (named_in entity_names bs) (option_or (decimal_entity bs) (hex_entity bs))
unfolding entity_at named_entity
entity_is bs = refl

pub entity_front : (bs : List ℕ) (x : Entity) → entity_at bs ≡ Some x → entity_at (take x.1 bs) ≡ Some x
entity_front bs x e =
    entity_is (take x.1 bs)
    ∙ ⊎_elim
    (λ h. ap (λ (o : Option Entity). option_or o (option_or (decimal_entity (take x.1 bs)) (hex_entity (take x.1 bs)))) (named_front entity_names bs x h))
    (λ h.
    ap (λ (o : Option Entity). option_or o (option_or (decimal_entity (take x.1 bs)) (hex_entity (take x.1 bs)))) (named_none entity_names bs x.1 h.0)
    ∙ ⊎_elim
    (λ d. ap (λ (o : Option Entity). option_or o (hex_entity (take x.1 bs))) (decimal_front bs x d))
    (λ d. let f = hex_front bs x d.1 in ap (λ (o : Option Entity). option_or o (hex_entity (take x.1 bs))) f.1 ∙ f.0)
    (or_entity (decimal_entity bs) (hex_entity bs) x h.1))
    (or_entity (named_in entity_names bs) (option_or (decimal_entity bs) (hex_entity bs)) x (sym (entity_is bs) ∙ e))
