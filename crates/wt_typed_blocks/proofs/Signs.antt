-- Text alone has no two apostrophes beside each other, no two `_` and no `://`.
use Rattle.std.proofs.Common.{arith, ◌≡◌, ◌≢◌, ℕ, ◌≤◌, ◌==◌, Bool, true, false, List, [], ◌∷◌, ◌++◌, map, refl, sym, ap, ◌∙◌, subst, append-nil, inl, inr, All}
use Rattle.std.specs.Prelude.{◌||◌, codes, encode_utf8}
use Rattle.std.specs.Str.{chars}
use Rattle.std.specs.Fmt.{digits}
use Rattle.std.proofs.lemmas.Bool.{cases_lt}
use Rattle.std.proofs.lemmas.List.Elements.{All-head, All-tail}
use Rattle.std.proofs.lemmas.Str.{encode_ascii}
use Rattle.wt_span.specs.Bytes.{begins, is_blank}
use Rattle.wt_names.proofs.Ascii.{IsWide, encode_wide}
use Rattle.wt_tree.specs.declared.edit_shape.Place.{Place}
use Rattle.wt_guards.specs.Content.{ContentSign, letter, letters}
use Rattle.wt_guards.specs.Letters.{is_escaped, is_term, are_slashes, reference, written_by}
use Rattle.wt_guards.specs.Guards.{Setting, nowiki, nowiki_if, is_guarded, spelled_from, spelled}
use Rattle.wt_guards.proofs.Escapes.{is_escapable, escapable, others_stay, each_escapable}
use Rattle.wt_typed_blocks.specs.Reading.{stands}
use Rattle.wt_typed_blocks.proofs.Forms.{begins_not}
use Rattle.wt_typed_blocks.proofs.TextReads.{begin_next, unguarded, equal_or, apart, or_parts}

-- none of the three stands in it
record Calm (bs : List ℕ) : Type 0 where
  styles : stands (codes "''") bs ≡ false
  switches : stands (codes "__") bs ≡ false
  addresses : stands (codes "://") bs ≡ false

calm_nothing : Calm []
calm_nothing = record { styles = refl; switches = refl; addresses = refl }

no_more : (word : List ℕ) (b : ℕ) (bs : List ℕ) → begins word (b ∷ bs) ≡ false → stands word bs ≡ false → stands word (b ∷ bs) ≡ false
no_more word b bs e f = ap (λ (t : Bool). t || stands word bs) e ∙ f

calm_byte : (b : ℕ) (bs : List ℕ) → b ≢ 39 → b ≢ 95 → b ≢ 58 → Calm bs → Calm (b ∷ bs)
calm_byte b bs h k m c = record {
  styles = no_more (codes "''") b bs (begins_not (codes "''") (b ∷ bs) 0 (omega arith) h) c.styles;
  switches = no_more (codes "__") b bs (begins_not (codes "__") (b ∷ bs) 0 (omega arith) k) c.switches;
  addresses = no_more (codes "://") b bs (begins_not (codes "://") (b ∷ bs) 0 (omega arith) m) c.addresses;
}

calm_nowiki : (rest : List ℕ) → Calm rest → Calm (nowiki ++ rest)
unfolding nowiki
calm_nowiki rest c = record { styles = c.styles; switches = c.switches; addresses = c.addresses }

calm_guard : (g : Bool) (rest : List ℕ) → Calm rest → Calm (nowiki_if g ++ rest)
calm_guard true rest c = calm_nowiki rest c
calm_guard false rest c = c

calm_alone : (g : Bool) → Calm (nowiki_if g)
calm_alone g = subst Calm (append-nil (nowiki_if g)) (calm_guard g [] calm_nothing)

calm_reference : (c : ℕ) (rest : List ℕ) → is_escapable c ≡ true → Calm rest → Calm (reference c ++ rest)
unfolding reference digits
calm_reference c rest e q = record {
  styles =
      each_escapable (λ k. stands (codes "''") (reference k ++ rest) ≡ false) q.styles q.styles q.styles q.styles q.styles q.styles q.styles
      q.styles q.styles q.styles q.styles q.styles q.styles c e;
  switches =
      each_escapable (λ k. stands (codes "__") (reference k ++ rest) ≡ false) q.switches q.switches q.switches q.switches q.switches q.switches
      q.switches q.switches q.switches q.switches q.switches q.switches q.switches c e;
  addresses =
      each_escapable (λ k. stands (codes "://") (reference k ++ rest) ≡ false) q.addresses q.addresses q.addresses q.addresses q.addresses
      q.addresses q.addresses q.addresses q.addresses q.addresses q.addresses q.addresses q.addresses c e;
}

calm_wide : (bs rest : List ℕ) → All IsWide bs → Calm rest → Calm (bs ++ rest)
calm_wide [] rest h c = c
calm_wide (b ∷ bs) rest h c =
    let w : 128 ≤ b = All-head IsWide b bs h in
    let k : b ≢ 39 = omega (arith, w) in
    let m : b ≢ 95 = omega (arith, w) in
    let n : b ≢ 58 = omega (arith, w) in
    calm_byte b (bs ++ rest) k m n (calm_wide bs rest (All-tail IsWide b bs h) c)

-- ---- the three characters where they are left

-- what is spelled after a character
abbrev after_it : Setting → ℕ → List ContentSign → List ℕ → List ℕ
after_it s c before cs = spelled_from s (letter c ∷ before) (map letter cs)

calm_apostrophe : (s : Setting) (before : List ContentSign) (cs : List ℕ) → is_escaped s.within s.place before 39 (map letter cs) ≡ false
    → Calm (after_it s 39 before cs) → Calm (39 ∷ after_it s 39 before cs)
unfolding is_escaped
calm_apostrophe s before [] e c = let h = or_parts _ true e in absurd (let no : true ≡ false = h.1 in cc)
calm_apostrophe s before (d ∷ ds) e c =
    let other = (or_parts _ (d == 39) e).1 in
    let n = begin_next (λ x. x ≢ 39) s 39 d before ds refl refl (omega arith) (λ h. apart d 39 other) (λ x h. omega (arith, h)) in
    let f = ap (λ bs. begins (codes "''") (39 ∷ bs)) n.is ∙ begins_not (codes "''") (39 ∷ n.first ∷ n.others) 1 (omega arith) n.fits in
    record { styles = no_more (codes "''") 39 (after_it s 39 before (d ∷ ds)) f c.styles; switches = c.switches; addresses = c.addresses }

twice : (within : Bool) (p : Place) (before : List ContentSign) (d : ℕ) (after : List ContentSign) → is_escaped within p (letter 95 ∷ before) d after ≡ false → d ≢ 95
unfolding is_escaped
twice within p before d after e = λ i. let no : true ≡ false = subst (λ k. is_escaped within p (letter 95 ∷ before) k after ≡ false) i e in cc

line_alone : (g : Bool) → Calm (95 ∷ nowiki_if g)
unfolding nowiki
line_alone true = record { styles = refl; switches = refl; addresses = refl }
line_alone false = record { styles = refl; switches = refl; addresses = refl }

calm_low_line : (s : Setting) (before : List ContentSign) (cs : List ℕ) → Calm (after_it s 95 before cs) → Calm (95 ∷ after_it s 95 before cs)
calm_low_line s before [] c = line_alone (is_guarded s (letter 95 ∷ before) [])
calm_low_line s before (d ∷ ds) c =
    let n = begin_next (λ x. x ≢ 95) s 95 d before ds refl refl (omega arith) (twice s.within s.place before d (map letter ds)) (λ x h. omega (arith, h)) in
    let f = ap (λ bs. begins (codes "__") (95 ∷ bs)) n.is ∙ begins_not (codes "__") (95 ∷ n.first ∷ n.others) 1 (omega arith) n.fits in
    record { styles = c.styles; switches = no_more (codes "__") 95 (after_it s 95 before (d ∷ ds)) f c.switches; addresses = c.addresses }

colon_alone : (g : Bool) → Calm (58 ∷ nowiki_if g)
unfolding nowiki
colon_alone true = record { styles = refl; switches = refl; addresses = refl }
colon_alone false = record { styles = refl; switches = refl; addresses = refl }

slash_alone : (g : Bool) → begins (codes "://") (58 ∷ 47 ∷ nowiki_if g) ≡ false
unfolding nowiki
slash_alone true = refl
slash_alone false = refl

-- a slash is written as it stands
slash_is : (s : Setting) (c : ℕ) (before : List ContentSign) (ds : List ℕ) → (c == 10) ≡ false → is_blank c ≡ false
    → after_it s c before (47 ∷ ds) ≡ 47 ∷ after_it s 47 (letter c ∷ before) ds
slash_is s c before ds e f =
    let after = map letter ds in
    let rest = after_it s 47 (letter c ∷ before) ds in
    let t = is_escaped s.within s.place (letter c ∷ before) 47 after in
    ap (λ (g : Bool). nowiki_if g ++ (written_by t 47 ++ rest)) (unguarded s c 47 before after e f)
    ∙ ap (λ (g : Bool). written_by g 47 ++ rest) (others_stay s.within s.place (letter c ∷ before) 47 after refl)
    ∙ ap (λ bs. bs ++ rest) (encode_ascii 47 (omega arith))

-- no `//` follows a `:` that is left
no_slashes : (s : Setting) (before : List ContentSign) (d : ℕ) (ds : List ℕ) → are_slashes (map letter (d ∷ ds)) ≡ false
    → begins (codes "://") (58 ∷ after_it s 58 before (d ∷ ds)) ≡ false
no_slashes s before d ds e = elim (equal_or d 47) [
  | inl i ↦ subst (λ k. begins (codes "://") (58 ∷ after_it s 58 before (k ∷ ds)) ≡ false) (sym i)
      (one_slash s before ds (subst (λ k. are_slashes (map letter (k ∷ ds)) ≡ false) i e))
  | inr o ↦
      let n = begin_next (λ x. x ≢ 47) s 58 d before ds refl refl (omega arith) (λ h. apart d 47 o) (λ x h. omega (arith, h)) in
      ap (λ bs. begins (codes "://") (58 ∷ bs)) n.is ∙ begins_not (codes "://") (58 ∷ n.first ∷ n.others) 1 (omega arith) n.fits
]
  where
    one_slash : (s : Setting) (before : List ContentSign) (ds : List ℕ) → are_slashes (map letter (47 ∷ ds)) ≡ false
        → begins (codes "://") (58 ∷ after_it s 58 before (47 ∷ ds)) ≡ false
    one_slash s before [] e =
        ap (λ bs. begins (codes "://") (58 ∷ bs)) (slash_is s 58 before [] refl refl) ∙ slash_alone (is_guarded s (letter 47 ∷ letter 58 ∷ before) [])
    one_slash s before (d ∷ ds) e =
        let n = begin_next (λ x. x ≢ 47) s 47 d (letter 58 ∷ before) ds refl refl (omega arith) (λ h. apart d 47 e) (λ x h. omega (arith, h)) in
        ap (λ bs. begins (codes "://") (58 ∷ bs)) (slash_is s 58 before (d ∷ ds) refl refl)
        ∙ ap (λ bs. begins (codes "://") (58 ∷ 47 ∷ bs)) n.is ∙ begins_not (codes "://") (58 ∷ 47 ∷ n.first ∷ n.others) 2 (omega arith) n.fits

calm_colon : (s : Setting) (before : List ContentSign) (cs : List ℕ) → is_escaped s.within s.place before 58 (map letter cs) ≡ false
    → Calm (after_it s 58 before cs) → Calm (58 ∷ after_it s 58 before cs)
unfolding is_escaped
calm_colon s before [] e c = colon_alone (is_guarded s (letter 58 ∷ before) [])
calm_colon s before (d ∷ ds) e c =
    let f = no_slashes s before d ds (or_parts (is_term s.place) (are_slashes (map letter (d ∷ ds))) e).1 in
    record { styles = c.styles; switches = c.switches; addresses = no_more (codes "://") 58 (after_it s 58 before (d ∷ ds)) f c.addresses }

-- ---- all

calm_small : (s : Setting) (before : List ContentSign) (c : ℕ) (cs : List ℕ) → is_escaped s.within s.place before c (map letter cs) ≡ false
    → Calm (after_it s c before cs) → Calm (c ∷ after_it s c before cs)
calm_small s before c cs e q =
    let P : ℕ → Type 0 = λ k. is_escaped s.within s.place before k (map letter cs) ≡ false → Calm (after_it s k before cs)
    → Calm (k ∷ after_it s k before cs) in
    elim (equal_or c 39) [
      | inl i ↦ subst P (sym i) (calm_apostrophe s before cs) e q
      | inr a ↦ elim (equal_or c 95) [
        | inl i ↦ subst P (sym i) (λ h k. calm_low_line s before cs k) e q
        | inr b ↦ elim (equal_or c 58) [
          | inl i ↦ subst P (sym i) (calm_colon s before cs) e q
          | inr d ↦ calm_byte c (after_it s c before cs) (apart c 39 a) (apart c 95 b) (apart c 58 d) q
        ]
      ]
    ]

calm_plain : (s : Setting) (before : List ContentSign) (c : ℕ) (cs : List ℕ) → is_escaped s.within s.place before c (map letter cs) ≡ false
    → Calm (after_it s c before cs) → Calm (encode_utf8 c ++ after_it s c before cs)
calm_plain s before c cs e q = elim (cases_lt c 128) [
  | inl small ↦ subst (λ bs. Calm (bs ++ after_it s c before cs)) (sym (encode_ascii c small)) (calm_small s before c cs e q)
  | inr wide ↦ calm_wide (encode_utf8 c) (after_it s c before cs) (encode_wide c wide) q
]

calm_letter : (s : Setting) (before : List ContentSign) (c : ℕ) (cs : List ℕ) (e : Bool) → is_escaped s.within s.place before c (map letter cs) ≡ e
    → Calm (after_it s c before cs) → Calm (written_by e c ++ after_it s c before cs)
calm_letter s before c cs true h q = calm_reference c (after_it s c before cs) (escapable s.within s.place before c (map letter cs) h) q
calm_letter s before c cs false h q = calm_plain s before c cs h q

calm_from : (s : Setting) (before : List ContentSign) (cs : List ℕ) → Calm (spelled_from s before (map letter cs))
calm_from s before [] = calm_alone (is_guarded s before [])
calm_from s before (c ∷ cs) =
    let after = map letter cs in
    let e = is_escaped s.within s.place before c after in
    calm_guard (is_guarded s before (letter c ∷ after)) (written_by e c ++ after_it s c before cs)
    (calm_letter s before c cs e refl (calm_from s (letter c ∷ before) cs))

pub no_styles : (s : Setting) (text : List ℕ) → stands (codes "''") (spelled s (letters text)) ≡ false
no_styles s text = (calm_from s [] (chars text)).styles

pub no_switches : (s : Setting) (text : List ℕ) → stands (codes "__") (spelled s (letters text)) ≡ false
no_switches s text = (calm_from s [] (chars text)).switches

pub no_addresses : (s : Setting) (text : List ℕ) → stands (codes "://") (spelled s (letters text)) ≡ false
no_addresses s text = (calm_from s [] (chars text)).addresses
