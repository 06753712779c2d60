-- The page that `gen` makes, line by line.
use Rattle.std.proofs.Common.{◌≡◌, ◌≤◌, ◌<◌, ℕ, zero, suc, ◌+◌, ◌^◌, Bool, false, List, [], ◌∷◌, ◌++◌, refl, sym, ap, ◌∙◌, arith, append_assoc}
use Rattle.std.specs.Prelude.{◌==◌, ◌%◌, codes, decimal}
use Rattle.std.specs.List.{AllByRecursion}
use Rattle.std.proofs.lemmas.Bool.Decides.{nat_tests}
use Rattle.std.proofs.lemmas.Fmt.{decimal_by_steps}
use Rattle.wt_span.specs.Characters as byte
use Rattle.wt_gen.specs.Gen.{numbered, section, sections}
use Rattle.wt_page_laws.specs.MadePages.{lines_from, lines_with}

-- ---- digits

abbrev NoBreaks : List ℕ → Type 0
NoBreaks ds = AllByRecursion (λ d. (d == byte.line_break) ≡ false) ds

no_break : (n : ℕ) → ((48 + n) == byte.line_break) ≡ false
no_break n = grind (arith, nat_tests)

join : (xs ys : List ℕ) → NoBreaks xs → NoBreaks ys → NoBreaks (xs ++ ys)
join [] ys h k = k
join (x ∷ xs) ys h k = (h.0, join xs ys h.1 k)

digits_unbroken : (n : ℕ) → n < 2 ^ 64 → NoBreaks (decimal n)
digits_unbroken n lt =
    decimal_by_steps (λ m ds. NoBreaks ds) (λ m l. (no_break m, tt)) (λ m ds l h. join ds ((48 + m % 10) ∷ []) h (no_break (m % 10), tt)) n lt

-- within a line no other one begins
passed : (sign ds bs : List ℕ) → NoBreaks ds → lines_from sign false (ds ++ bs) ≡ lines_from sign false bs
passed sign [] bs h = refl
passed sign (d ∷ ds) bs h = ap (λ (b : Bool). lines_from sign b (ds ++ bs)) h.0 ∙ passed sign ds bs h.1

-- ---- a section

abbrev after_item : List ℕ → List ℕ
after_item rest = codes "\n\n{{T}}\n\n" ++ rest

-- the section of a number, before others
abbrev spelled : List ℕ → List ℕ → List ℕ
spelled d rest =
    codes "== Section " ++ (d ++ (codes " ==\n\n" ++ (codes "Word ''" ++ (d ++ (codes "'' and " ++ (codes "[[Page " ++ (d ++ (codes "]].\n\n"
    ++ (codes "* item " ++ (d ++ after_item rest))))))))))

numbered_on : (before : List ℕ) (k : ℕ) (after rest : List ℕ) → numbered before k after ++ rest ≡ before ++ (decimal k ++ (after ++ rest))
numbered_on before k after rest =
    append_assoc before (decimal k ++ after) rest ∙ ap (λ (bs : List ℕ). before ++ bs) (append_assoc (decimal k) after rest)

section_on : (k : ℕ) (rest : List ℕ) → section k ++ rest ≡ spelled (decimal k) rest
unfolding section
section_on k rest =
    let a : List ℕ = numbered (codes "== Section ") k (codes " ==\n\n") in
    let b : List ℕ = numbered (codes "Word ''") k (codes "'' and ") in
    let c : List ℕ = numbered (codes "[[Page ") k (codes "]].\n\n") in
    let d : List ℕ = numbered (codes "* item ") k (codes "\n\n{{T}}\n\n") in
    append_assoc a (b ++ (c ++ d)) rest
    ∙ ap (λ (bs : List ℕ). a ++ bs) (append_assoc b (c ++ d) rest ∙ ap (λ (bs : List ℕ). b ++ bs) (append_assoc c d rest))
    ∙ numbered_on (codes "== Section ") k (codes " ==\n\n") (b ++ (c ++ (d ++ rest)))
    ∙ ap (λ (bs : List ℕ). codes "== Section " ++ (decimal k ++ (codes " ==\n\n" ++ bs)))
    (numbered_on (codes "Word ''") k (codes "'' and ") (c ++ (d ++ rest))
    ∙ ap (λ (bs : List ℕ). codes "Word ''" ++ (decimal k ++ (codes "'' and " ++ bs)))
    (numbered_on (codes "[[Page ") k (codes "]].\n\n") (d ++ rest)
    ∙ ap (λ (bs : List ℕ). codes "[[Page " ++ (decimal k ++ (codes "]].\n\n" ++ bs))) (numbered_on (codes "* item ") k (codes "\n\n{{T}}\n\n") rest)))

abbrev HasOne : List ℕ → Type 0
HasOne sign = (d rest : List ℕ) → NoBreaks d → lines_with sign (spelled d rest) ≡ suc (lines_with sign rest)

one_heading : HasOne (codes "== Section ")
one_heading d rest h =
    ap suc (passed (codes "== Section ") d (codes " ==\n\n" ++ (codes "Word ''" ++ (d ++ (codes "'' and " ++ (codes "[[Page " ++ (d ++ (codes "]].\n\n" ++ (codes "* item " ++ (d ++ after_item rest))))))))) h
    ∙ passed (codes "== Section ") d (codes "'' and " ++ (codes "[[Page " ++ (d ++ (codes "]].\n\n" ++ (codes "* item " ++ (d ++ after_item rest)))))) h
    ∙ passed (codes "== Section ") d (codes "]].\n\n" ++ (codes "* item " ++ (d ++ after_item rest))) h
    ∙ passed (codes "== Section ") d (after_item rest) h)

one_paragraph : HasOne (codes "Word ''")
one_paragraph d rest h =
    passed (codes "Word ''") d (codes " ==\n\n" ++ (codes "Word ''" ++ (d ++ (codes "'' and " ++ (codes "[[Page " ++ (d ++ (codes "]].\n\n" ++ (codes "* item " ++ (d ++ after_item rest))))))))) h
    ∙ ap suc (passed (codes "Word ''") d (codes "'' and " ++ (codes "[[Page " ++ (d ++ (codes "]].\n\n" ++ (codes "* item " ++ (d ++ after_item rest)))))) h
    ∙ passed (codes "Word ''") d (codes "]].\n\n" ++ (codes "* item " ++ (d ++ after_item rest))) h
    ∙ passed (codes "Word ''") d (after_item rest) h)

one_item : HasOne (codes "* item ")
one_item d rest h =
    passed (codes "* item ") d (codes " ==\n\n" ++ (codes "Word ''" ++ (d ++ (codes "'' and " ++ (codes "[[Page " ++ (d ++ (codes "]].\n\n" ++ (codes "* item " ++ (d ++ after_item rest))))))))) h
    ∙ passed (codes "* item ") d (codes "'' and " ++ (codes "[[Page " ++ (d ++ (codes "]].\n\n" ++ (codes "* item " ++ (d ++ after_item rest)))))) h
    ∙ passed (codes "* item ") d (codes "]].\n\n" ++ (codes "* item " ++ (d ++ after_item rest))) h
    ∙ ap suc (passed (codes "* item ") d (after_item rest) h)

one_call : HasOne (codes "{{T}}")
one_call d rest h =
    passed (codes "{{T}}") d (codes " ==\n\n" ++ (codes "Word ''" ++ (d ++ (codes "'' and " ++ (codes "[[Page " ++ (d ++ (codes "]].\n\n" ++ (codes "* item " ++ (d ++ after_item rest))))))))) h
    ∙ passed (codes "{{T}}") d (codes "'' and " ++ (codes "[[Page " ++ (d ++ (codes "]].\n\n" ++ (codes "* item " ++ (d ++ after_item rest)))))) h
    ∙ passed (codes "{{T}}") d (codes "]].\n\n" ++ (codes "* item " ++ (d ++ after_item rest))) h
    ∙ passed (codes "{{T}}") d (after_item rest) h

-- ---- all sections

all_on : (sign : List ℕ) → HasOne sign → (n : ℕ) (rest : List ℕ) → n ≤ 10000 → lines_with sign (sections n ++ rest) ≡ n + lines_with sign rest
all_on sign one zero rest le = let e : lines_with sign rest ≡ 0 + lines_with sign rest = omega arith in e
all_on sign one (suc n) rest le =
    let h : NoBreaks (decimal (suc n)) = digits_unbroken (suc n) (omega (arith, le)) in
    ap (lines_with sign) (append_assoc (sections n) (section (suc n)) rest)
    ∙ all_on sign one n (section (suc n) ++ rest) (omega (arith, le))
    ∙ ap (λ (bs : List ℕ). n + lines_with sign bs) (section_on (suc n) rest)
    ∙ ap (λ (m : ℕ). n + m) (one (decimal (suc n)) rest h) ∙ omega arith

nothing_after : (bs : List ℕ) → bs ++ [] ≡ bs
nothing_after [] = refl
nothing_after (b ∷ bs) = ap (λ (x : List ℕ). b ∷ x) (nothing_after bs)

abbrev HasAll : List ℕ → Type 0
HasAll sign = (n : ℕ) → n ≤ 10000 → lines_with sign (sections n) ≡ n

has_all : (sign : List ℕ) → HasOne sign → HasAll sign
has_all sign one n le = ap (lines_with sign) (sym (nothing_after (sections n))) ∙ all_on sign one n [] le ∙ omega arith

pub headings : HasAll (codes "== Section ")
headings = has_all (codes "== Section ") one_heading

pub paragraphs : HasAll (codes "Word ''")
paragraphs = has_all (codes "Word ''") one_paragraph

pub items : HasAll (codes "* item ")
items = has_all (codes "* item ") one_item

pub calls : HasAll (codes "{{T}}")
calls = has_all (codes "{{T}}") one_call
