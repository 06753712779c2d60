-- What trimming leaves, and that nothing else is between white space.
use Rattle.std.proofs.Common.{◌≡◌, refl, sym, ◌∙◌, ap, subst, ℕ, ◌+◌, ◌-◌, Bool, true, false, List, [], ◌∷◌, ◌++◌, length, take, drop, reverse, arith, length-append, append-nil}
use Rattle.std.proofs.lemmas.List.{reverse-append, reverse-reverse, length-reverse}
use Rattle.std.proofs.Math.Seq.{take-append_seam, drop-append_seam}
use Rattle.std.specs.List.{AllByRecursion, prefix_len}
use Rattle.std.specs.Prelude.{◌↔◌, ◌==◌, ◌||◌}
use Rattle.std.proofs.lemmas.Bool.Decides.{Decides-eqb}
use Rattle.wt_call_data.specs.CallData.{is_white, without_lead, without_tail, trimmed}
use Rattle.wt_page_laws.specs.Trimming.{IsWhite, space, tab, line_break, StandsBetweenWhite}

-- ---- white space

white_passes : (b : ℕ) → IsWhite b → is_white b ≡ true
white_passes b space = refl
white_passes b tab = refl
white_passes b line_break = refl

either : (x y z : Bool) (P : Type 0) → (x ≡ true → P) → (y ≡ true → P) → (z ≡ true → P) → (x || (y || z)) ≡ true → P
either true y z P f g h e = f refl
either false true z P f g h e = g refl
either false false true P f g h e = h refl
either false false false P f g h e = cc

passes_white : (b : ℕ) → is_white b ≡ true → IsWhite b
passes_white b e = either (b == 32) (b == 9) (b == 10) (IsWhite b)
    (λ h. subst IsWhite (sym ((Decides-eqb b 32).0 h)) space)
    (λ h. subst IsWhite (sym ((Decides-eqb b 9).0 h)) tab)
    (λ h. subst IsWhite (sym ((Decides-eqb b 10).0 h)) line_break) e

not_white : (b : ℕ) → (IsWhite b → ⊥) → is_white b ≡ false
not_white b h = by (is_white b) refl
  where
    by : (t : Bool) → is_white b ≡ t → t ≡ false
    by true e = absurd (h (passes_white b e))
    by false e = refl

abbrev Whites : List ℕ → Type 0
Whites bs = AllByRecursion IsWhite bs

-- a text doesn't begin with white space
abbrev Firm : List ℕ → Type 0
Firm bs = (b : ℕ) (rest : List ℕ) → bs ≡ b ∷ rest → IsWhite b → ⊥

whites_join : (xs ys : List ℕ) → Whites xs → Whites ys → Whites (xs ++ ys)
whites_join [] ys h g = g
whites_join (x ∷ xs) ys h g = (h.0, whites_join xs ys h.1 g)

whites_back : (xs : List ℕ) → Whites xs → Whites (reverse xs)
whites_back [] h = tt
whites_back (x ∷ xs) h =
    subst Whites (sym (reverse-append (x ∷ []) xs)) (whites_join (reverse xs) (x ∷ []) (whites_back xs h.1) (h.0, tt))

-- ---- the white space in front

lead_len : (lead rest : List ℕ) → Whites lead → Firm rest → prefix_len is_white (lead ++ rest) ≡ length lead
lead_len [] [] h f = refl
lead_len [] (b ∷ rest) h f = rw (not_white b (f b rest refl)) refl
lead_len (x ∷ lead) rest h f = rw (white_passes x h.0, lead_len lead rest h.1 f) (omega arith)

without : (lead rest : List ℕ) → Whites lead → Firm rest → without_lead (lead ++ rest) ≡ rest
without lead rest h f = ap (λ n. drop n (lead ++ rest)) (lead_len lead rest h f) ∙ drop-append_seam lead rest

-- every text is white space and a firm rest
record Cut (bs : List ℕ) : Type 0 where
  lead : List ℕ
  rest : List ℕ
  whole : bs ≡ lead ++ rest
  white : Whites lead
  firm : Firm rest

firm_byte : (b : ℕ) (bs : List ℕ) → is_white b ≡ false → Firm (b ∷ bs)
firm_byte b bs firm c rest e w = let same : b ≡ c = cc in let yes : is_white b ≡ true = ap is_white same ∙ white_passes c w in cc

cut : (bs : List ℕ) → Cut bs
cut [] = record { lead = []; rest = []; whole = refl; white = tt; firm = λ b rest e w. cc }
cut (b ∷ bs) = by (is_white b) refl (cut bs)
  where
    by : (t : Bool) → is_white b ≡ t → Cut bs → Cut (b ∷ bs)
    by true e c = record {
      lead = b ∷ c.lead;
      rest = c.rest;
      whole = ap (λ (x : List ℕ). b ∷ x) c.whole;
      white = (passes_white b e, c.white);
      firm = c.firm;
    }
    by false e c = record { lead = []; rest = b ∷ bs; whole = refl; white = tt; firm = firm_byte b bs e }

-- ---- the white space at the end

abbrev FirmEnd : List ℕ → Type 0
FirmEnd bs = (front : List ℕ) (b : ℕ) → bs ≡ front ++ (b ∷ []) → IsWhite b → ⊥

firm_back : (bs : List ℕ) → FirmEnd bs → Firm (reverse bs)
firm_back bs f b rest e w = f (reverse rest) b (sym (reverse-reverse bs) ∙ ap reverse e ∙ reverse-append (b ∷ []) rest) w

firm_end : (bs : List ℕ) → Firm bs → FirmEnd (reverse bs)
firm_end bs f front b e w = f b (reverse front) (sym (reverse-reverse bs) ∙ ap reverse e ∙ reverse-append front (b ∷ [])) w

without_end : (text behind : List ℕ) → Whites behind → FirmEnd text → without_tail (text ++ behind) ≡ text
without_end text behind h f =
    let turned : reverse (text ++ behind) ≡ reverse behind ++ reverse text = reverse-append text behind in
    let n : prefix_len is_white (reverse (text ++ behind)) ≡ length (reverse behind) =
    ap (prefix_len is_white) turned ∙ lead_len (reverse behind) (reverse text) (whites_back behind h) (firm_back text f) in
    let whole : length (text ++ behind) ≡ length text + length behind = length-append text behind in
    let back : length (reverse behind) ≡ length behind = length-reverse behind in
    let left : length (text ++ behind) - prefix_len is_white (reverse (text ++ behind)) ≡ length text = omega arith in
    ap (λ m. take m (text ++ behind)) left ∙ take-append_seam text behind

-- ---- both

nothing_between : (before behind : List ℕ) → Whites before → Whites behind → trimmed (before ++ ([] ++ behind)) ≡ []
unfolding trimmed
nothing_between before behind h g =
    let all : without_lead ((before ++ behind) ++ []) ≡ [] = without (before ++ behind) [] (whites_join before behind h g) (λ b rest e w. cc) in
    let same : without_lead (before ++ behind) ≡ [] = ap without_lead (sym (append-nil (before ++ behind))) ∙ all in
    ap without_tail same ∙ without_end [] [] tt (λ front b e w. no_end front b e)
  where
    no_end : (front : List ℕ) (b : ℕ) → [] ≡ front ++ (b ∷ []) → ⊥
    no_end [] b e = cc
    no_end (x ∷ front) b e = cc

some_between : (before : List ℕ) (b : ℕ) (rest behind : List ℕ) → Whites before → Whites behind → Firm (b ∷ rest) → FirmEnd (b ∷ rest)
    → trimmed (before ++ ((b ∷ rest) ++ behind)) ≡ b ∷ rest
unfolding trimmed
some_between before b rest behind h g f e =
    ap without_tail (without before (b ∷ (rest ++ behind)) h (λ c more q w. f b rest refl (let same : c ≡ b = cc in subst IsWhite same w)))
    ∙ without_end (b ∷ rest) behind g e

between : (before text behind : List ℕ) → Whites before → Whites behind → Firm text → FirmEnd text → trimmed (before ++ (text ++ behind)) ≡ text
between before [] behind h g f e = nothing_between before behind h g
between before (b ∷ rest) behind h g f e = some_between before b rest behind h g f e

is_trimmed : (all text : List ℕ) → StandsBetweenWhite all text → trimmed all ≡ text
is_trimmed all text s = ap trimmed s.whole ∙ between s.before text s.behind s.white_before s.white_behind s.begins s.ends

-- of every text something stands between white space
record Between (all : List ℕ) : Type 0 where
  text : List ℕ
  stands : StandsBetweenWhite all text

firm_part : (xs ys : List ℕ) → Firm (xs ++ ys) → Firm xs
firm_part xs ys f b rest e w = f b (rest ++ ys) (ap (λ (zs : List ℕ). zs ++ ys) e) w

something : (all : List ℕ) → Between all
something all = by (cut all)
  where
    twice : (c : Cut all) → Cut (reverse c.rest) → Between all
    twice c d =
        let split : c.rest ≡ reverse d.rest ++ reverse d.lead =
        sym (reverse-reverse c.rest) ∙ ap reverse d.whole ∙ reverse-append d.lead d.rest in
        record {
          text = reverse d.rest;
          stands = record {
            before = c.lead;
            behind = reverse d.lead;
            whole = c.whole ∙ ap (λ (x : List ℕ). c.lead ++ x) split;
            white_before = c.white;
            white_behind = whites_back d.lead d.white;
            begins = firm_part (reverse d.rest) (reverse d.lead) (subst Firm split c.firm);
            ends = firm_end d.rest d.firm;
          };
        }

    by : Cut all → Between all
    by c = twice c (cut (reverse c.rest))

pub trimmed_between : (all text : List ℕ) → (trimmed all ≡ text) ↔ StandsBetweenWhite all text
trimmed_between all text = (λ e. by e (something all), is_trimmed all text)
  where
    by : trimmed all ≡ text → Between all → StandsBetweenWhite all text
    by e b = subst (StandsBetweenWhite all) (sym (is_trimmed all b.text b.stands) ∙ e) b.stands
