-- The rows of a line of each kind.
use Rattle.std.proofs.Common.{◌≡◌, ◌≤◌, ◌⊎◌, inl, inr, List, [], ◌∷◌, length, take, drop, refl, sym, ap, ◌∙◌, subst}
use Rattle.wt_span.specs.Items.{Item}
use Rattle.wt_lines.specs.declared.kind.LineKind.{LineKind}
use Rattle.wt_lines.specs.declared.kind.LineKind.TheVariants as kind
use Rattle.wt_lines.specs.Lines.{content}
use Rattle.wt_page.specs.Lines.{ending}
use Rattle.wt_page.specs.Rows.{marks_len, idle_len, dashes, whole_row, line_rows}
use Rattle.wt_rows.specs.Building.{cut_row, signed_rows, IsTableLine, IsTextLine}
use Rattle.wt_rows.proofs.LineRows.{marked_row, idle_row, end_rows, rule_rows}

pub table_line : (k : LineKind) → (k ≡ kind.TableOpen) ⊎ (k ≡ kind.Caption) ⊎ (k ≡ kind.Row) ⊎ (k ≡ kind.Cell) ⊎ (k ≡ kind.Header) → IsTableLine k
table_line k s = elim s [
  | inl a ↦ subst IsTableLine (sym a) tt
  | inr h0 ↦ elim h0 [
    | inl a ↦ subst IsTableLine (sym a) tt
    | inr h1 ↦ elim h1 [
      | inl a ↦ subst IsTableLine (sym a) tt
      | inr h2 ↦ elim h2 [
        | inl a ↦ subst IsTableLine (sym a) tt
        | inr h3 ↦ subst IsTableLine (sym h3) tt
      ]
    ]
  ]
]

pub text_line : (k : LineKind) → (k ≡ kind.Heading) ⊎ (k ≡ kind.List) ⊎ (k ≡ kind.Pre) ⊎ (k ≡ kind.Text) → IsTextLine k
text_line k s = elim s [
  | inl a ↦ subst IsTextLine (sym a) tt
  | inr h0 ↦ elim h0 [
    | inl a ↦ subst IsTextLine (sym a) tt
    | inr h1 ↦ elim h1 [
      | inl a ↦ subst IsTextLine (sym a) tt
      | inr h2 ↦ subst IsTextLine (sym h2) tt
    ]
  ]
]

idle_rows : (k : LineKind) (l : List Item) → IsTableLine k → whole_row k (idle_len l) l ∷ [] ≡ line_rows k l
idle_rows kind.Blank l i = absurd i
idle_rows kind.TableOpen l i = refl
idle_rows kind.TableEnd l i = absurd i
idle_rows kind.Caption l i = refl
idle_rows kind.Row l i = refl
idle_rows kind.Cell l i = refl
idle_rows kind.Header l i = refl
idle_rows kind.Heading l i = absurd i
idle_rows kind.Rule l i = absurd i
idle_rows kind.List l i = absurd i
idle_rows kind.Pre l i = absurd i
idle_rows kind.Text l i = absurd i

marked_rows : (k : LineKind) (l : List Item) → IsTextLine k → whole_row k (marks_len l) l ∷ [] ≡ line_rows k l
marked_rows kind.Blank l i = absurd i
marked_rows kind.TableOpen l i = absurd i
marked_rows kind.TableEnd l i = absurd i
marked_rows kind.Caption l i = absurd i
marked_rows kind.Row l i = absurd i
marked_rows kind.Cell l i = absurd i
marked_rows kind.Header l i = absurd i
marked_rows kind.Heading l i = refl
marked_rows kind.Rule l i = absurd i
marked_rows kind.List l i = refl
marked_rows kind.Pre l i = refl
marked_rows kind.Text l i = refl

pub idle_are : (k : LineKind) (l xs e : List Item) → xs ≡ content l → e ≡ ending l → IsTableLine k → cut_row k (idle_len xs) xs e ∷ [] ≡ line_rows k l
idle_are k l xs e ex ee i =
    ap (λ ys. cut_row k (idle_len ys) ys e ∷ []) ex
    ∙ ap (λ ys. cut_row k (idle_len (content l)) (content l) ys ∷ []) ee
    ∙ ap (λ r. r ∷ []) (idle_row k l) ∙ idle_rows k l i

pub marked_are : (k : LineKind) (l xs e : List Item) → xs ≡ content l → e ≡ ending l → IsTextLine k → cut_row k (marks_len xs) xs e ∷ [] ≡ line_rows k l
marked_are k l xs e ex ee i =
    ap (λ ys. cut_row k (marks_len ys) ys e ∷ []) ex
    ∙ ap (λ ys. cut_row k (marks_len (content l)) (content l) ys ∷ []) ee
    ∙ ap (λ r. r ∷ []) (marked_row k l) ∙ marked_rows k l i

pub end_are : (k : LineKind) (l xs e : List Item) → k ≡ kind.TableEnd → xs ≡ content l → e ≡ ending l → 2 ≤ length (drop (idle_len xs) xs)
    → signed_rows kind.TableEnd (take (idle_len xs) xs) 2 (drop (idle_len xs) xs) e ≡ line_rows k l
end_are k l xs e ek ex ee h =
    let within : 2 ≤ length (drop (idle_len (content l)) (content l)) = subst (λ (ys : List Item). 2 ≤ length (drop (idle_len ys) ys)) ex h in
    ap (λ ys. signed_rows kind.TableEnd (take (idle_len ys) ys) 2 (drop (idle_len ys) ys) e) ex
    ∙ ap (λ ys. signed_rows kind.TableEnd (take (idle_len (content l)) (content l)) 2 (drop (idle_len (content l)) (content l)) ys) ee
    ∙ end_rows l within ∙ ap (λ j. line_rows j l) (sym ek)

pub rule_are : (k : LineKind) (l xs e : List Item) → k ≡ kind.Rule → xs ≡ content l → e ≡ ending l
    → signed_rows kind.Rule (take (marks_len xs) xs) (dashes (drop (marks_len xs) xs)) (drop (marks_len xs) xs) e ≡ line_rows k l
rule_are k l xs e ek ex ee =
    ap (λ ys. signed_rows kind.Rule (take (marks_len ys) ys) (dashes (drop (marks_len ys) ys)) (drop (marks_len ys) ys) e) ex
    ∙ ap (λ ys. signed_rows kind.Rule (take (marks_len (content l)) (content l)) (dashes (drop (marks_len (content l)) (content l)))
    (drop (marks_len (content l)) (content l)) ys) ee
    ∙ rule_rows l ∙ ap (λ j. line_rows j l) (sym ek)
