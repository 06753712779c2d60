-- A node of the page is one paragraph or heading alone: its kind, its delimiters and its source tell which.
use Rattle.std.proofs.Common.{arith, ◌≡◌, ◌≤◌, ℕ, zero, suc, true, false, List, [], ◌∷◌, ◌++◌, refl, sym, ap, ap₂, ◌∙◌, append_assoc}
use Rattle.std.proofs.lemmas.Grind.{flat_map-append}
use Rattle.std.proofs.lemmas.List.{append_cancel_left, append_cancel_right}
use Rattle.wt_span.specs.Bytes.{is_blank}
use Rattle.wt_span.specs.Characters as byte
use Rattle.wt_span.specs.Items.{Item, source, sources}
use Rattle.wt_tree.specs.declared.kind.Kind.TheVariants as kind
use Rattle.wt_tree.specs.Source.{flat}
use Rattle.wt_tree.specs.Tree.{Tree, label}
use Rattle.wt_annotated.specs.Labels.{label_at}
use Rattle.wt_expand.specs.PageItems.{page_items}
use Rattle.wt_expand.proofs.PageLaws.{page_sources}
use Rattle.wt_part_laws.specs.Standing.{standing}
use Rattle.wt_part_laws.proofs.Sources.{standing_source}
use Rattle.wt_typed_blocks.specs.Sent.{kind_of}
use Rattle.wt_text_edit_laws.specs.Contents.{IsContent}
use Rattle.wt_text_edit_laws.specs.LonePages.{page_chars}
use Rattle.wt_text_edit_laws.specs.TextBlocks.{TextBlock, a_paragraph, a_heading, block_of, source_of, block_tree}
use Rattle.wt_text_edit_laws.specs.TypedHeadings.{Sides, AreBlanks, AreSides, equals, opening, closing, closing_items}
use Rattle.wt_text_edit_laws.proofs.Blocks.BlockLeaves.{open_items, close_items}
use Rattle.wt_text_edit_laws.proofs.Blocks.Contents.{block_source}
use Rattle.wt_called_edit_laws.specs.EditsAt.{IsStanding}

-- ---- the sides of a heading

rest_of : List ℕ → List ℕ
rest_of [] = []
rest_of (x ∷ xs) = xs

first_or : ℕ → List ℕ → ℕ
first_or n [] = n
first_or n (x ∷ xs) = x

-- the blanks before a `=`, and what is behind it
record AreCut (us vs ms ns : List ℕ) : Type 0 where
  front : us ≡ vs
  behind : ms ≡ ns

no_blank : (v : ℕ) → byte.equals_sign ≡ v → is_blank v ≡ true → ⊥
no_blank v e b = let wrong : false ≡ true = ap is_blank e ∙ b in absurd (cc)

blanks_same : (us vs ms ns : List ℕ) → AreBlanks us → AreBlanks vs → us ++ byte.equals_sign ∷ ms ≡ vs ++ byte.equals_sign ∷ ns → AreCut us vs ms ns
unfolding rest_of first_or
blanks_same [] [] ms ns a b e = record { front = refl; behind = ap rest_of e }
blanks_same [] (v ∷ vs) ms ns a b e = absurd (no_blank v (ap (first_or 0) e) b.0)
blanks_same (u ∷ us) [] ms ns a b e = absurd (no_blank u (sym (ap (first_or 0) e)) a.0)
blanks_same (u ∷ us) (v ∷ vs) ms ns a b e =
    let r : AreCut us vs ms ns = blanks_same us vs ms ns a.1 b.1 (ap rest_of e) in
    record { front = ap₂ (λ (x : ℕ) (xs : List ℕ). x ∷ xs) (ap (first_or 0) e) r.front; behind = r.behind }

closing_same : (n : ℕ) (us vs ms ns : List ℕ) → 1 ≤ n → AreBlanks us → AreBlanks vs → us ++ (equals n ++ ms) ≡ vs ++ (equals n ++ ns) → AreCut us vs ms ns
closing_same zero us vs ms ns le a b e = absurd (omega (arith, le))
closing_same (suc n) us vs ms ns le a b e =
    let r : AreCut us vs (equals n ++ ms) (equals n ++ ns) = blanks_same us vs (equals n ++ ms) (equals n ++ ns) a b e in
    record { front = r.front; behind = append_cancel_left (equals n) ms ns r.behind }

sides_are : (s z : Sides) → s.level ≡ z.level → s.lead ≡ z.lead → s.trail ≡ z.trail → s.rest ≡ z.rest → s ≡ z
sides_are s z l a t r =
    ap (λ (n : ℕ). record s { level = n }) l
    ∙ ap (λ (bs : List ℕ). record s { level = z.level; lead = bs }) a
    ∙ ap (λ (bs : List ℕ). record s { level = z.level; lead = z.lead; trail = bs }) t
    ∙ ap (λ (bs : List ℕ). record s { level = z.level; lead = z.lead; trail = z.trail; rest = bs }) r

sides_same : (s z : Sides) → AreSides s → AreSides z → s.level ≡ z.level → opening s ≡ opening z → closing s ≡ closing z → s ≡ z
sides_same s z a b l o c =
    let lead : s.lead ≡ z.lead = append_cancel_left (equals s.level) s.lead z.lead (o ∙ ap (λ (n : ℕ). equals n ++ z.lead) (sym l)) in
    let r : AreCut s.trail z.trail s.rest z.rest =
    closing_same s.level s.trail z.trail s.rest z.rest a.some a.trail b.trail (c ∙ ap (λ (n : ℕ). z.trail ++ (equals n ++ z.rest)) (sym l)) in
    sides_are s z l lead r.front r.behind

chars_are : (bs : List ℕ) → sources (page_chars bs) ≡ bs
chars_are [] = refl
chars_are (b ∷ bs) = ap (λ (cs : List ℕ). b ∷ cs) (chars_are bs)

closing_is : (s : Sides) → sources (closing_items s) ≡ closing s
closing_is s =
    let signs : List ℕ = s.trail ++ equals s.level in
    flat_map-append source (page_chars signs) (page_items s.rest)
    ∙ ap₂ (λ (bs cs : List ℕ). bs ++ cs) (chars_are signs) (page_sources s.rest)
    ∙ append_assoc s.trail (equals s.level) s.rest

-- ---- a block

-- a paragraph has none
abbrev pub HasSides : TextBlock → Type 0
HasSides a_paragraph = Unit {0}
HasSides (a_heading s) = AreSides s

-- what a node is told by
pub record IsToldBy (k : TextBlock) (q : List ℕ) (t : Tree) : Type 0 where
  pub kind : (label t).kind ≡ kind_of (block_of k)
  pub opening : (label t).opening ≡ sources (open_items k)
  pub closing : (label t).closing ≡ sources (close_items k)
  pub source : flat t ≡ source_of k q
  pub sides : HasSides k

pub record IsSameBlock (k j : TextBlock) (q x : List ℕ) : Type 0 where
  pub block : k ≡ j
  pub text : q ≡ x

text_same : (s : Sides) (q x : List ℕ) → source_of (a_heading s) q ≡ source_of (a_heading s) x → q ≡ x
text_same s q x e = append_cancel_right q x (closing s) (append_cancel_left (opening s) (q ++ closing s) (x ++ closing s) e)

headings_same : (s z : Sides) (q x : List ℕ) (t : Tree) → IsToldBy (a_heading s) q t → IsToldBy (a_heading z) x t
    → IsSameBlock (a_heading s) (a_heading z) q x
headings_same s z q x t h g =
    let kinds : kind.Heading s.level ≡ kind.Heading z.level = sym h.kind ∙ g.kind in
    let level : s.level ≡ z.level = cc in
    let front : opening s ≡ opening z = sym (chars_are (opening s)) ∙ sym h.opening ∙ g.opening ∙ chars_are (opening z) in
    let back : closing s ≡ closing z = sym (closing_is s) ∙ sym h.closing ∙ g.closing ∙ closing_is z in
    let same : s ≡ z = sides_same s z h.sides g.sides level front back in
    record {
      block = ap (λ (w : Sides). a_heading w) same;
      text = text_same s q x (sym h.source ∙ g.source ∙ ap (λ (w : Sides). source_of (a_heading w) x) (sym same));
    }

pub one_block : (k j : TextBlock) (q x : List ℕ) (t : Tree) → IsToldBy k q t → IsToldBy j x t → IsSameBlock k j q x
one_block a_paragraph a_paragraph q x t h g = record { block = refl; text = sym h.source ∙ g.source }
one_block a_paragraph (a_heading z) q x t h g = let wrong : kind.Para ≡ kind.Heading z.level = sym h.kind ∙ g.kind in absurd (cc)
one_block (a_heading s) a_paragraph q x t h g = let wrong : kind.Heading s.level ≡ kind.Para = sym h.kind ∙ g.kind in absurd (cc)
one_block (a_heading s) (a_heading z) q x t h g = headings_same s z q x t h g

-- ---- a block that calls nothing

content_sides : (k : TextBlock) (q : List ℕ) → IsContent k q → HasSides k
content_sides a_paragraph q c = tt
content_sides (a_heading s) q c = let line = c.is in line.frame.sides

standing_label : (k : TextBlock) (q : List ℕ) (n : ℕ) (before : List Item) (t : Tree) → t ≡ standing n before (block_tree k q) → IsContent k q → IsToldBy k q t
unfolding label_at
standing_label a_paragraph q n before t e c = record {
  kind = ap (λ (u : Tree). (label u).kind) e;
  opening = ap (λ (u : Tree). (label u).opening) e;
  closing = ap (λ (u : Tree). (label u).closing) e;
  source = ap flat e ∙ standing_source n before (block_tree a_paragraph q) ∙ block_source a_paragraph q;
  sides = tt;
}
standing_label (a_heading s) q n before t e c = record {
  kind = ap (λ (u : Tree). (label u).kind) e;
  opening = ap (λ (u : Tree). (label u).opening) e;
  closing = ap (λ (u : Tree). (label u).closing) e;
  source = ap flat e ∙ standing_source n before (block_tree (a_heading s) q) ∙ block_source (a_heading s) q;
  sides = content_sides (a_heading s) q c;
}

pub standing_told : (k : TextBlock) (q : List ℕ) (t : Tree) → IsStanding (block_tree k q) t → IsContent k q → IsToldBy k q t
standing_told k q t s c = standing_label k q s.number s.before t s.is c
