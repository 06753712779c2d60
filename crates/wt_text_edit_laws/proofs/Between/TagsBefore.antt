-- An opening tag of a front of a text is one of the text.
use Rattle.std.proofs.Common.{◌≡◌, ℕ, ◌+◌, ◌-◌, ◌==◌, Bool, true, false, Option, Some, None, List, ◌∷◌, ◌++◌, length, get_or, take, drop, nat_lt, refl, sym, ap, ◌∙◌, arith, length-take, length-drop, suc}
use Rattle.std.specs.Prelude.{if◌then◌else◌, ◌&&◌}
use Rattle.std.specs.List.{prefix_len}
use Rattle.std.proofs.lemmas.List.{take-take}
use Rattle.std.proofs.lemmas.List.Sums.{prefix_len-le-length}
use Rattle.std.proofs.Math.Seq.{take-append_seam}
use Rattle.wt_span.specs.Bytes.{name_len, lower}
use Rattle.wt_span.specs.Tags.{Tag, is_tag_byte, is_tag_inside, closes_itself, tag_after, opening_tag}
use Rattle.wt_lex.proofs.Begins.{and_left, and_right, lt_is, is_within, byte_is}
use Rattle.wt_lex.proofs.Fronts.{drop_front, byte_front, prefix_more, name_more}
use Rattle.wt_text_edit_laws.specs.TextBetween.{AreEnded}
use Rattle.wt_text_edit_laws.proofs.Between.LineTags.{opening_here}

if_some : {A : Type 0} → (t : Bool) (o : Option A) (x : A) → (if t then o else None) ≡ Some x → (t ≡ true) × (o ≡ Some x)
if_some true o x e = (refl, e)
if_some false o x e = cc

then_some : {A : Type 0} → (t : Bool) (o : Option A) (x : A) → t ≡ true → o ≡ Some x → (if t then o else None) ≡ Some x
then_some true o x e f = f
then_some false o x e f = cc

abbrev tag_by : List ℕ → List ℕ → ℕ → Option Tag
tag_by name inside byte = if byte == 62 && is_tag_inside inside then
    Some (record { name = lower name; len = 2 + length name + length inside; alone = closes_itself inside }) else None

after_is : (name rest : List ℕ) → tag_after name rest ≡ tag_by name (take (prefix_len is_tag_byte rest) rest)
    (get_or rest (length (take (prefix_len is_tag_byte rest) rest)) 0)
unfolding tag_after
after_is name rest = refl

-- the byte behind what stands in the tag
after_byte : (name rest : List ℕ) (t : Tag) → tag_after name rest ≡ Some t → get_or rest (prefix_len is_tag_byte rest) 0 ≡ 62
after_byte name rest t e =
    let inside = take (prefix_len is_tag_byte rest) rest in
    let x : Tag = record { name = lower name; len = 2 + length name + length inside; alone = closes_itself inside } in
    let is = if_some (get_or rest (length inside) 0 == 62 && is_tag_inside inside) (Some x) t (sym (after_is name rest) ∙ e) in
    let full : length inside ≡ prefix_len is_tag_byte rest =
    omega (arith, length-take (prefix_len is_tag_byte rest) rest, prefix_len-le-length is_tag_byte rest) in
    ap (λ (i : ℕ). get_or rest i 0) (sym full) ∙ byte_is rest (length inside) 62 (and_left (get_or rest (length inside) 0 == 62) _ is.0)

after_more : (name rest : List ℕ) (t : Tag) (m : ℕ) → tag_after name (take m rest) ≡ Some t → tag_after name rest ≡ Some t
after_more name rest t m e =
    let xs = take m rest in
    let k = prefix_len is_tag_byte xs in
    let byte = after_byte name xs t e in
    let there = is_within xs k 62 byte (omega arith) in
    let short = length-take m rest in
    let run : prefix_len is_tag_byte rest ≡ k = prefix_more is_tag_byte rest m there in
    let same : take (prefix_len is_tag_byte rest) rest ≡ take k xs = ap (λ (i : ℕ). take i rest) run ∙ sym (take-take k m rest (omega arith)) in
    let full : length (take k xs) ≡ k = omega (arith, length-take k xs) in
    after_is name rest ∙ ap (λ (i : List ℕ). tag_by name i (get_or rest (length i) 0)) same
    ∙ ap (tag_by name (take k xs)) (sym (byte_front rest m (length (take k xs)) (omega arith))) ∙ sym (after_is name xs) ∙ e

abbrev opening_by : ℕ → ℕ → List ℕ → List ℕ → Option Tag
opening_by first n name rest = if first == 60 && nat_lt 0 n then tag_after name rest else None

opening_is : (bs : List ℕ) → opening_tag bs ≡ opening_by (get_or bs 0 0) (name_len (drop 1 bs))
    (take (name_len (drop 1 bs)) (drop 1 bs)) (drop (1 + name_len (drop 1 bs)) bs)
unfolding opening_tag
opening_is bs = refl

opening_more : (bs : List ℕ) (t : Tag) (m : ℕ) → opening_tag (take m bs) ≡ Some t → opening_tag bs ≡ Some t
opening_more bs t m e =
    let xs = take m bs in
    let n = name_len (drop 1 xs) in
    let name = take n (drop 1 xs) in
    let rest = drop (1 + n) xs in
    let is = if_some (get_or xs 0 0 == 60 && nat_lt 0 n) (tag_after name rest) t (sym (opening_is xs) ∙ e) in
    let first = byte_is xs 0 60 (and_left (get_or xs 0 0 == 60) _ is.0) in
    let some = is_within xs 0 60 first (omega arith) in
    let named = lt_is 0 n (and_right (get_or xs 0 0 == 60) _ is.0) in
    let last = is_within rest (prefix_len is_tag_byte rest) 62 (after_byte name rest t is.1) (omega arith) in
    let short = length-take m bs in
    let left = length-drop (1 + n) xs in
    let all = length-drop 1 xs in
    let cut : drop 1 xs ≡ take (m - 1) (drop 1 bs) = drop_front 1 m bs (omega arith) in
    let names : name_len (drop 1 bs) ≡ n = name_more (drop 1 bs) (m - 1) (omega (arith, ap name_len cut))
    (omega (arith, ap name_len cut, ap length cut)) ∙ ap name_len (sym cut) in
    let same : name ≡ take n (drop 1 bs) = ap (take n) cut ∙ take-take n (m - 1) (drop 1 bs) (omega arith) in
    let after : rest ≡ take (m - (1 + n)) (drop (1 + n) bs) = drop_front (1 + n) m bs (omega arith) in
    let tail : tag_after name (drop (1 + n) bs) ≡ Some t = after_more name (drop (1 + n) bs) t (m - (1 + n)) (ap (tag_after name) (sym after) ∙ is.1) in
    opening_is bs
    ∙ ap (λ (i : ℕ). opening_by (get_or bs 0 0) i (take i (drop 1 bs)) (drop (1 + i) bs)) names
    ∙ ap (λ (b : ℕ). opening_by b n (take n (drop 1 bs)) (drop (1 + n) bs)) (sym (byte_front bs m 0 (omega arith)))
    ∙ ap (λ (i : List ℕ). opening_by (get_or xs 0 0) n i (drop (1 + n) bs)) (sym same)
    ∙ then_some (get_or xs 0 0 == 60 && nat_lt 0 n) (tag_after name (drop (1 + n) bs)) t is.0 tail

-- behind lines, comments or tags it is the same
pub opening_same : (b : ℕ) (q rest : List ℕ) → AreEnded (b ∷ q) → opening_tag ((b ∷ q) ++ rest) ≡ opening_tag (b ∷ q)
opening_same b q rest l = by (opening_tag bs) (opening_tag (b ∷ q)) refl refl
  where
    bs : List ℕ
    bs = (b ∷ q) ++ rest

    by : (o p : Option Tag) → opening_tag bs ≡ o → opening_tag (b ∷ q) ≡ p → o ≡ p
    by None None e f = refl
    by None (Some t) e f =
        let z : None ≡ Some t = sym e ∙ opening_more bs t (suc (length q)) (ap opening_tag (take-append_seam (b ∷ q) rest) ∙ f) in
        cc
    by (Some t) p e f = sym (opening_here b q rest t l e) ∙ f
