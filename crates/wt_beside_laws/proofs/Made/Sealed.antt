-- Bytes in which each closing tag ends that begins there: those whose last byte is in no name and no blank, those without a `<`, and both in a row.
use Rattle.std.proofs.Common.{arith, ◌≡◌, ◌≢◌, inl, inr, ℕ, suc, ◌+◌, ◌-◌, ◌≤◌, ◌==◌, Bool, true, false, Option, Some, None, List, [], ◌∷◌, ◌++◌, length, get_or, take, drop, nat_lt, refl, sym, ap, ◌∙◌, subst, append_assoc}
use Rattle.std.specs.Prelude.{◌&&◌, ◌||◌, if◌then◌else◌, slice_index, codes}
use Rattle.std.specs.Option.{option_map, option_or}
use Rattle.std.specs.Char.{is_ascii_alphabetic, is_ascii_alphanumeric}
use Rattle.std.specs.List.{prefix_len}
use Rattle.std.proofs.lemmas.Bool.{cases_lt, eqb-true}
use Rattle.std.proofs.lemmas.List.{get_or-drop}
use Rattle.std.proofs.lemmas.List.Sums.{prefix_len_passes}
use Rattle.std.proofs.Math.Seq.{take-append_seam}
use Rattle.wt_span.specs.Bytes.{is_blank, begins, name_len, blank_len, lower}
use Rattle.wt_span.specs.Tags.{Tag, closing_tag, len_if_named, to_closing}
use Rattle.wt_lex.proofs.Begins.{and_left}
use Rattle.wt_lex.proofs.WholeTags.{closing_front, closing_more}
use Rattle.wt_text_edit_laws.specs.TextBetween.{EndsBy}
use Rattle.wt_text_edit_laws.proofs.Between.ClosingTags.{Unclosed, unclosed_byte, unclosed_rest, unclosed_behind, not_less}
use Rattle.wt_text_edit_laws.proofs.Between.LineComments.{ends_behind, last_end}
use Rattle.wt_text_edit_laws.proofs.Between.LineTags.{TagWithin}
use Rattle.wt_text_edit_laws.proofs.Between.LineWords.{either, word_before}
use Rattle.wt_beside_laws.specs.FlatBlocks.{IsSealed}

-- ---- a byte over which no closing tag goes on

abbrev pub stops : ℕ → Bool
stops b = b == 93 || (b == 62 || (b == 59 || (b == 95 || (b == 39 || b == 125))))

each_stop : (P : ℕ → Type 0) → P 93 → P 62 → P 59 → P 95 → P 39 → P 125 → (b : ℕ) → stops b ≡ true → P b
each_stop P bracket greater semicolon underscore apostrophe brace b e = elim (either (b == 93) _ e) [
  | inl i ↦ subst P (sym (eqb-true b 93 i)) bracket
  | inr f ↦ elim (either (b == 62) _ f) [
    | inl i ↦ subst P (sym (eqb-true b 62 i)) greater
    | inr g ↦ elim (either (b == 59) _ g) [
      | inl i ↦ subst P (sym (eqb-true b 59 i)) semicolon
      | inr h ↦ elim (either (b == 95) _ h) [
        | inl i ↦ subst P (sym (eqb-true b 95 i)) underscore
        | inr j ↦ elim (either (b == 39) (b == 125) j) [
          | inl i ↦ subst P (sym (eqb-true b 39 i)) apostrophe
          | inr i ↦ subst P (sym (eqb-true b 125 i)) brace
        ]
      ]
    ]
  ]
]

no_name : (b : ℕ) → stops b ≡ true → is_ascii_alphanumeric b ≡ false
no_name b e = each_stop (λ k. is_ascii_alphanumeric k ≡ false) refl refl refl refl refl refl b e

no_blank : (b : ℕ) → stops b ≡ true → is_blank b ≡ false
no_blank b e = each_stop (λ k. is_blank k ≡ false) refl refl refl refl refl refl b e

-- a run ends before it
run_before : (start k : ℕ) (p : ℕ → Bool) (bs : List ℕ) → ((b : ℕ) → stops b ≡ true → p b ≡ false) → stops (get_or bs k 0) ≡ true → start ≤ k
    → start + prefix_len p (drop start bs) ≤ k
run_before start k p bs d g le = elim (cases_lt k (start + prefix_len p (drop start bs))) [
  | inl lt ↦
      let at : start + (k - start) ≡ k = omega (arith, le) in
      let passes : p (get_or (drop start bs) (k - start) 0) ≡ true = prefix_len_passes p (drop start bs) (k - start) 0 (omega (arith, lt, le)) in
      let here : p (get_or bs k 0) ≡ true = ap p (sym (get_or-drop start bs (k - start) 0 ∙ ap (λ (n : ℕ). get_or bs n 0) at)) ∙ passes in
      let stopped : p (get_or bs k 0) ≡ false = d (get_or bs k 0) g in
      absurd (cc)
  | inr shorter ↦ shorter
]

name_before : (start k : ℕ) (bs : List ℕ) → stops (get_or bs k 0) ≡ true → start ≤ k → start + name_len (drop start bs) ≤ k
name_before start k bs g le = by (is_ascii_alphabetic (slice_index (drop start bs) 0)) (run_before start k is_ascii_alphanumeric bs no_name g le)
  where
    by : (t : Bool) → start + prefix_len is_ascii_alphanumeric (drop start bs) ≤ k → start + (if t then prefix_len is_ascii_alphanumeric (drop start bs) else 0) ≤ k
    by true h = h
    by false h = omega (arith, le)

if_tag : (k : ℕ) (t : Bool) (o : Option Tag) → (t ≡ true → TagWithin k o) → TagWithin k (if t then o else None)
if_tag k true o f = f refl
if_tag k false o f = tt

pub closing_within : (k : ℕ) (bs : List ℕ) → stops (get_or bs k 0) ≡ true → TagWithin k (closing_tag bs)
unfolding closing_tag
closing_within k bs g =
    let n = name_len (drop 2 bs) in
    let j = blank_len (drop (2 + n) bs) in
    let t : Tag = record { name = lower (take n (drop 2 bs)); len = 3 + n + j; alone = false } in
    if_tag k (begins (codes "</") bs && (nat_lt 0 n && slice_index bs (2 + n + j) == 62)) (Some t)
    (λ e.
    let two = word_before stops (codes "</") bs k (and_left (begins (codes "</") bs) (nat_lt 0 n && slice_index bs (2 + n + j) == 62) e) refl g in
    let named = name_before 2 k bs g (omega (arith, two)) in
    let blanks = run_before (2 + n) k is_blank bs no_blank g named in
    omega (arith, blanks))

closing_same : (b : ℕ) (q rest : List ℕ) → EndsBy stops (b ∷ q) → closing_tag ((b ∷ q) ++ rest) ≡ closing_tag (b ∷ q)
closing_same b q rest l = by (closing_tag bs) (closing_tag (b ∷ q)) refl refl
  where
    bs : List ℕ
    bs = (b ∷ q) ++ rest

    cut : closing_tag (take (suc (length q)) bs) ≡ closing_tag (b ∷ q)
    cut = ap closing_tag (take-append_seam (b ∷ q) rest)

    by : (o p : Option Tag) → closing_tag bs ≡ o → closing_tag (b ∷ q) ≡ p → o ≡ p
    by None None e f = refl
    by None (Some t) e f = let z : None ≡ Some t = sym e ∙ closing_more bs t (suc (length q)) (cut ∙ f) in cc
    by (Some t) p e f =
        let le = subst (TagWithin (length q)) e (closing_within (length q) bs (last_end stops b q rest l)) in
        sym (sym cut ∙ closing_front bs t (suc (length q)) e (omega (arith, le))) ∙ f

-- ---- bytes that end with it

here_none : (a b : Option ℕ) → option_or a (option_map (λ n. 1 + n) b) ≡ None → a ≡ None
here_none None b e = refl
here_none (Some n) b e = e

both_none : (a b : Option ℕ) → a ≡ None → b ≡ None → option_or a (option_map (λ n. 1 + n) b) ≡ None
both_none None None e f = refl
both_none None (Some n) e f = absurd (cc)
both_none (Some m) b e f = absurd (cc)

-- what follows them may be another thing
other_end : (name ys rest other : List ℕ) → EndsBy stops ys → Unclosed name (ys ++ rest) → Unclosed name other → Unclosed name (ys ++ other)
other_end name [] rest other l h g = g
other_end name (b ∷ ys) rest other l h g =
    let own : len_if_named name (closing_tag (b ∷ (ys ++ rest))) ≡ None =
    here_none (len_if_named name (closing_tag (b ∷ (ys ++ rest)))) (to_closing name (ys ++ rest)) h in
    both_none (len_if_named name (closing_tag (b ∷ (ys ++ other)))) (to_closing name (ys ++ other))
    (ap (len_if_named name) (closing_same b ys other l ∙ sym (closing_same b ys rest l)) ∙ own)
    (other_end name ys rest other (ends_behind stops b ys l) (unclosed_rest name b (ys ++ rest) h) g)

pub ends_sealed : (ys : List ℕ) → EndsBy stops ys → IsSealed ys
ends_sealed ys l = record { closes = λ name us vs h k. other_end name ys us vs l h k }

-- ---- others, and in a row

pub none_sealed : IsSealed []
none_sealed = record { closes = λ name us vs h k. k }

pub byte_sealed : (b : ℕ) → b ≢ 60 → IsSealed (b ∷ [])
byte_sealed b n = record { closes = λ name us vs h k. unclosed_byte name b vs (not_less b vs n) k }

pub both_sealed : (xs ys : List ℕ) → IsSealed xs → IsSealed ys → IsSealed (xs ++ ys)
both_sealed xs ys f g = record { closes = closed }
  where
    closed : (name us vs : List ℕ) → Unclosed name ((xs ++ ys) ++ us) → Unclosed name vs → Unclosed name ((xs ++ ys) ++ vs)
    closed name us vs h k =
        let all : Unclosed name (xs ++ (ys ++ us)) = subst (Unclosed name) (append_assoc xs ys us) h in
        let last : Unclosed name (ys ++ vs) = g.closes name us vs (unclosed_behind name xs (ys ++ us) all) k in
        subst (Unclosed name) (sym (append_assoc xs ys vs)) (f.closes name (ys ++ us) (ys ++ vs) all last)

-- ---- the last byte

pub last_ends : (c : ℕ) (ws : List ℕ) → stops c ≡ true → EndsBy stops (ws ++ c ∷ [])
last_ends c [] e = e
last_ends c (b ∷ []) e = e
last_ends c (b ∷ d ∷ ws) e = last_ends c (d ∷ ws) e
