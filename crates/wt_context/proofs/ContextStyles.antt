-- The styles of all segments of a context.
use Rattle.std.proofs.Common.{◌≡◌, ℕ, List, length, sym, ap, ◌∙◌, subst}
use Rattle.wt_quotes.specs.declared.chunk.Chunk.{Chunk}
use Rattle.wt_quotes.specs.declared.style.Style.{Style}
use Rattle.wt_quotes.specs.Styles.{style_tree_of}
use Rattle.wt_quotes.specs.Forest.{forest_of}
use Rattle.wt_quotes.proofs.Flattening.{context_fills}
use Rattle.wt_inline.specs.Parts.{Part}
use Rattle.wt_inline.specs.Grown.{Grown, Grows}
use Rattle.wt_context.specs.Segments.{Segment}
use Rattle.wt_context.specs.Chunks.{chunks}
use Rattle.wt_context.specs.Styled.{styled, with_styles}
use Rattle.wt_context.specs.Styling.{Fill, AreStyled}
use Rattle.wt_context.proofs.Forests.{same_fill}
use Rattle.wt_context.proofs.ChunkLaws.{chunk_bytes_are}

pub styles_fill : (us : List Segment) (cs : List Chunk) (ss : List Style) (n : ℕ) → cs ≡ chunks us → ss ≡ style_tree_of cs → n ≡ length us
    → Fill 0 n (forest_of ss)
styles_fill us cs ss n e f i =
    let F = same_fill 0 _ (forest_of (style_tree_of (chunks us))) (context_fills (chunks us)) in
    let P : ℕ → Type 0 = λ m. Fill 0 m (forest_of (style_tree_of (chunks us))) in
    let Q : List Style → Type 0 = λ ts. Fill 0 n (forest_of ts) in
    subst Q (sym (f ∙ ap style_tree_of e)) (subst P (chunk_bytes_are us ∙ sym i) F)

pub all_styled : (us : List Segment) (cs : List Chunk) (ss : List Style) (n : ℕ) (before after : List Segment) (g h : Grown) → cs ≡ chunks us
    → ss ≡ style_tree_of cs → n ≡ length us → before ≡ us → AreStyled 0 n ss before g after h
    → Grows g (with_styles us) h
unfolding with_styles
all_styled us cs ss n before after g h e f i b a =
    let P : List Part → Type 0 = λ ps. Grows g ps h in
    subst P (ap (λ ts. styled 0 n (forest_of ts) us) (f ∙ ap style_tree_of e) ∙ ap (λ m. styled 0 m (forest_of (style_tree_of (chunks us))) us) i)
    (a us (sym b)).0
