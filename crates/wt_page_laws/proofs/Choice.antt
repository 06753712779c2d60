-- The run that is exchanged is the first of its class, and no run of an earlier class stands in the context.
use Rattle.std.proofs.Common.{◌≡◌, ℕ, ◌<◌, ◌≤◌, Bool, true, false, Option, Some, None, List, length, get_or, refl, sym, ap, ◌∙◌, arith, inl, inr, ◌⊎◌}
use Rattle.std.specs.Prelude.{◌&&◌, if◌then◌else◌, nat_lt, All, slice_get, slice_set}
use Rattle.std.specs.List.{position_or_len}
use Rattle.std.specs.Option.{option_or}
use Rattle.std.proofs.lemmas.Bool.{cases_lt}
use Rattle.std.proofs.lemmas.Bool.Decides.{nat_tests}
use Rattle.std.proofs.lemmas.List.Sums.{fails_before_first}
use Rattle.std.proofs.lemmas.List.Quantifiers.{position-Some}
use Rattle.std.proofs.lemmas.Option.{slice_get-get_or, slice_get_within, get_or_from_slice_get}
use Rattle.wt_quotes.specs.declared.chunk.Chunk.{Chunk}
use Rattle.wt_quotes.specs.declared.toggle.Toggle.{Toggle}
use Rattle.wt_quotes.specs.declared.toggle.Preceding.{Preceding}
use Rattle.wt_quotes.specs.declared.toggle.Preceding.TheVariants.{OneLetter, Middle, Space}
use Rattle.wt_quotes.specs.Toggles.{toggles_by_length, class_at, is_same_class, is_bold_alone, is_three, first_of, exchange_place, exchanged, set_exchanged, exchange_at, is_due, toggles_of}
use Rattle.wt_quotes.proofs.Exchange.{nothing}
use Rattle.wt_page_laws.specs.RunToggles.{rank, IsChosen, OneIsChosen}

none_if : (b : Bool) (n : ℕ) → (if b then Some n else None) ≡ None → b ≡ false
none_if true n e = cc
none_if false n e = refl

not_lt : (a b : ℕ) → nat_lt a b ≡ false → b ≤ a
not_lt a b e = grind (arith, nat_tests)

-- no toggle before this place is of a run of three of the class
abbrev NoneBefore : List Chunk → List Toggle → Preceding → ℕ → Type 0
NoneBefore chunks ts class i = (k : ℕ) (u : Toggle) → k < i → slice_get ts k ≡ Some u → is_three chunks class u ≡ false

none_at_all : (chunks : List Chunk) (ts : List Toggle) (class : Preceding) → first_of chunks class ts ≡ None → NoneBefore chunks ts class (length ts)
none_at_all chunks ts class e k u l g =
    let past = not_lt (position_or_len (is_three chunks class) ts) (length ts)
    (none_if (nat_lt (position_or_len (is_three chunks class) ts) (length ts)) (position_or_len (is_three chunks class) ts) e) in
    ap (is_three chunks class) (sym (get_or_from_slice_get ts k u nothing g))
    ∙ fails_before_first (is_three chunks class) ts k nothing (omega (arith, past, l))

none_before : (chunks : List Chunk) (ts : List Toggle) (class : Preceding) (i : ℕ) → first_of chunks class ts ≡ Some i → NoneBefore chunks ts class i
none_before chunks ts class i e k u l g =
    ap (is_three chunks class) (sym (get_or_from_slice_get ts k u nothing g))
    ∙ (position-Some (is_three chunks class) ts i nothing e).2 k l

both_true : (a b : Bool) → (a && b) ≡ true → (a ≡ true) × (b ≡ true)
both_true true b e = (refl, e)
both_true false b e = cc

same_rank : (c d : Preceding) → is_same_class c d ≡ true → rank c ≡ rank d
same_rank OneLetter OneLetter e = refl
same_rank Middle Middle e = refl
same_rank Space Space e = refl
same_rank c d e = cc

rank_within : (c : Preceding) → rank c < 3
rank_within OneLetter = omega arith
rank_within Middle = omega arith
rank_within Space = omega arith

-- a run of three is of the class
is_of_rank : (c d : Preceding) → rank c ≡ rank d → is_same_class c d ≡ true
is_of_rank OneLetter OneLetter e = refl
is_of_rank Middle Middle e = refl
is_of_rank Space Space e = refl
is_of_rank OneLetter Middle e = absurd (omega arith)
is_of_rank OneLetter Space e = absurd (omega arith)
is_of_rank Middle OneLetter e = absurd (omega arith)
is_of_rank Middle Space e = absurd (omega arith)
is_of_rank Space OneLetter e = absurd (omega arith)
is_of_rank Space Middle e = absurd (omega arith)

-- where no run of three of the class stands before the place, one that is of the class stands no earlier
no_earlier : (chunks : List Chunk) (ts : List Toggle) (class : Preceding) (i k : ℕ) (u : Toggle) → NoneBefore chunks ts class i
    → slice_get ts k ≡ Some u → is_bold_alone u ≡ true → rank (class_at chunks u.chunk) ≡ rank class → i ≤ k
no_earlier chunks ts class i k u none g alone e = elim (cases_lt k i) [
  | inl l ↦
      let three : is_three chunks class u ≡ true = ap (λ (b : Bool). b && is_same_class (class_at chunks u.chunk) class) alone ∙ is_of_rank (class_at chunks u.chunk) class e in
      let no = none k u l g in
      absurd (cc)
  | inr l ↦ l
]

-- what is known of the place i of a class before which no run of three of an earlier class stands at all
chosen_by : (chunks : List Chunk) (ts : List Toggle) (class : Preceding) (i : ℕ) (t : Toggle)
    → ts ≡ toggles_by_length chunks → slice_get ts i ≡ Some t → is_three chunks class t ≡ true → NoneBefore chunks ts class i
    → ((d : Preceding) → rank d < rank class → NoneBefore chunks ts d (length ts)) → IsChosen chunks i t
chosen_by chunks ts class i t same g three none earlier =
    let parts = both_true (is_bold_alone t) (is_same_class (class_at chunks t.chunk) class) three in
    let at = same_rank (class_at chunks t.chunk) class parts.1 in (
      ap (λ us. slice_get us i) (sym same) ∙ g,
      parts.0,
      λ k u h alone.
          let here : slice_get ts k ≡ Some u = ap (λ us. slice_get us k) same ∙ h in
          let c = class_at chunks u.chunk in
          elim (cases_lt (rank class) (rank c)) [
            | inl l ↦ inl (omega (arith, at, l))
            | inr l ↦ elim (cases_lt (rank c) (rank class)) [
              | inl m ↦
                  let past = no_earlier chunks ts c (length ts) k u (earlier c m) here alone refl in
                  absurd (omega (arith, past, slice_get_within ts k u here))
              | inr m ↦ inr (omega (arith, at, l, m), no_earlier chunks ts class i k u none here alone (omega (arith, l, m)))
            ]
          ],
    )

-- the class of the place that is taken, where no earlier class occurs
place_by : (chunks : List Chunk) (ts : List Toggle) (a b c : Option ℕ) → first_of chunks OneLetter ts ≡ a → first_of chunks Middle ts ≡ b
    → first_of chunks Space ts ≡ c → (i : ℕ) → option_or a (option_or b c) ≡ Some i
    → (class : Preceding) × (first_of chunks class ts ≡ Some i) × ((d : Preceding) → rank d < rank class → first_of chunks d ts ≡ None)
place_by chunks ts (Some j) b c e f g i is = (OneLetter, e ∙ is, λ d l. absurd (omega (arith, l)))
place_by chunks ts None (Some j) c e f g i is = (Middle, f ∙ is, before_middle)
  where
    before_middle : (d : Preceding) → rank d < 1 → first_of chunks d ts ≡ None
    before_middle OneLetter l = e
    before_middle Middle l = absurd (omega arith)
    before_middle Space l = absurd (omega arith)
place_by chunks ts None None c e f g i is = (Space, g ∙ is, before_space)
  where
    before_space : (d : Preceding) → rank d < 2 → first_of chunks d ts ≡ None
    before_space OneLetter l = e
    before_space Middle l = f
    before_space Space l = absurd (omega arith)

-- where none is taken no class occurs
none_by : (chunks : List Chunk) (ts : List Toggle) (a b c : Option ℕ) → first_of chunks OneLetter ts ≡ a → first_of chunks Middle ts ≡ b
    → first_of chunks Space ts ≡ c → option_or a (option_or b c) ≡ None → (d : Preceding) → first_of chunks d ts ≡ None
none_by chunks ts None None None e f g is OneLetter = e
none_by chunks ts None None None e f g is Middle = f
none_by chunks ts None None None e f g is Space = g
none_by chunks ts None None (Some k) e f g is d = cc
none_by chunks ts None (Some k) c e f g is d = cc
none_by chunks ts (Some k) b c e f g is d = cc

not_alone : (b : Bool) → (b ≡ true → ⊥) → b ≡ false
not_alone true h = absurd (h refl)
not_alone false h = refl

none_alone : (chunks : List Chunk) → exchange_place chunks (toggles_by_length chunks) ≡ None
    → All (λ t. is_bold_alone t ≡ false) (toggles_by_length chunks)
none_alone chunks e k d l =
    let ts : List Toggle = toggles_by_length chunks in
    let u : Toggle = get_or ts k d in
    let no = none_by chunks ts (first_of chunks OneLetter ts) (first_of chunks Middle ts) (first_of chunks Space ts) refl refl refl e in
    not_alone (is_bold_alone u) (λ alone.
    let past = no_earlier chunks ts (class_at chunks u.chunk) (length ts) k u (none_at_all chunks ts (class_at chunks u.chunk) (no (class_at chunks u.chunk)))
    (slice_get-get_or ts k d l) alone refl in
    omega (arith, past, l))

taken_is : (chunks : List Chunk) (i : ℕ) → exchange_place chunks (toggles_by_length chunks) ≡ Some i
    → (t : Toggle) × (slice_get (toggles_by_length chunks) i ≡ Some t) × IsChosen chunks i t
taken_is chunks i e =
    let ts : List Toggle = toggles_by_length chunks in
    let at = place_by chunks ts (first_of chunks OneLetter ts) (first_of chunks Middle ts) (first_of chunks Space ts) refl refl refl i e in
    let found = position-Some (is_three chunks at.0) ts i nothing at.1 in
    let g : slice_get ts i ≡ Some (get_or ts i nothing) = slice_get-get_or ts i nothing found.0 in (
      get_or ts i nothing,
      g,
      chosen_by chunks ts at.0 i (get_or ts i nothing) refl g found.1 (none_before chunks ts at.0 i at.1)
          (λ d l. none_at_all chunks ts d (at.2 d l)),
    )

abbrev Claim : List Chunk → List Toggle → Type 0
Claim chunks us =
    ((is_due (toggles_by_length chunks) ≡ true) × (i : ℕ) × (t : Toggle) × IsChosen chunks i t
    × (us ≡ slice_set (toggles_by_length chunks) i (exchanged t)))
    ⊎ (((is_due (toggles_by_length chunks) ≡ false) ⊎ All (λ t. is_bold_alone t ≡ false) (toggles_by_length chunks))
    × (us ≡ toggles_by_length chunks))

claim_by : (chunks : List Chunk) (b : Bool) (o : Option ℕ) → is_due (toggles_by_length chunks) ≡ b
    → exchange_place chunks (toggles_by_length chunks) ≡ o
    → Claim chunks (if b then exchange_at o (toggles_by_length chunks) else toggles_by_length chunks)
claim_by chunks false o e f = inr (inl e, refl)
claim_by chunks true None e f = inr (inr (none_alone chunks f), refl)
claim_by chunks true (Some i) e f =
    let is = taken_is chunks i f in
    inl (e, i, is.0, is.2, ap (set_exchanged (toggles_by_length chunks) i) is.1)

pub one_is_chosen : (chunks : List Chunk) → OneIsChosen chunks
unfolding toggles_of
one_is_chosen chunks = claim_by chunks (is_due (toggles_by_length chunks)) (exchange_place chunks (toggles_by_length chunks)) refl refl
