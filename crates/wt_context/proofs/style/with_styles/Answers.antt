use Rattle.std.proofs.Common.{length, ap, ◌∙◌, arith}
use Rattle.wt_quotes.specs.Runs.{bytes_of, are_apart}
use Rattle.wt_inline.specs.Grown.{growth}
use Rattle.wt_context.specs.Chunks.{chunks}
use Rattle.wt_context.specs.Tokens.{segments_of, rest_segments}
use Rattle.wt_context.proofs.ChunkLaws.{chunk_bytes_are, few_chunks, chunks_apart}
use Rattle.wt_context.proofs.ContextStyles.{styles_fill, all_styled}
use Rattle.wt_context.proofs.style.with_styles.Goals as goal

pub style_tree-requires-clause-apart : goal.style_tree-requires-clause-apart
style_tree-requires-clause-apart c =
    let us = segments_of c.args.tokens in
    let is = c.as_slice-3.ensures ∙ c.in_ok-chunks.ensures ∙ ap (λ ts. chunks (segments_of ts)) c.as_slice-2.ensures in
    ap are_apart is ∙ chunks_apart us

pub style_tree-requires-clause-bytes : goal.style_tree-requires-clause-bytes
style_tree-requires-clause-bytes c =
    let us = segments_of c.args.tokens in
    let is = c.as_slice-3.ensures ∙ c.in_ok-chunks.ensures ∙ ap (λ ts. chunks (segments_of ts)) c.as_slice-2.ensures in
    let n = c.segment_count-count.ensures ∙ ap (λ ts. length (segments_of ts)) c.as_slice.ensures in
    omega (arith, ap bytes_of is, chunk_bytes_are us, n)

pub style_tree-requires-clause-members : goal.style_tree-requires-clause-members
style_tree-requires-clause-members c =
    let us = segments_of c.args.tokens in
    let is = c.as_slice-3.ensures ∙ c.in_ok-chunks.ensures ∙ ap (λ ts. chunks (segments_of ts)) c.as_slice-2.ensures in
    let n = c.segment_count-count.ensures ∙ ap (λ ts. length (segments_of ts)) c.as_slice.ensures in
    omega (arith, ap length is, few_chunks us, n)

pub styled-requires : goal.styled-requires
styled-requires c =
    let is = c.as_slice-3.ensures ∙ c.in_ok-chunks.ensures ∙ ap (λ ts. chunks (segments_of ts)) c.as_slice-2.ensures in
    let n = c.segment_count-count.ensures ∙ ap (λ ts. length (segments_of ts)) c.as_slice.ensures in
    styles_fill (segments_of c.args.tokens) c.as_slice-3.result.now c.as_slice-4.result.now c.segment_count-count.result is (c.as_slice-4.ensures ∙ c.in_ok-styles.ensures) n

pub returns : goal.returns
returns c =
    let is = c.as_slice-3.ensures ∙ c.in_ok-chunks.ensures ∙ ap (λ ts. chunks (segments_of ts)) c.as_slice-2.ensures in
    let n = c.segment_count-count.ensures ∙ ap (λ ts. length (segments_of ts)) c.as_slice.ensures in
    all_styled (segments_of c.args.tokens) c.as_slice-3.result.now c.as_slice-4.result.now c.segment_count-count.result (rest_segments c.of.result) _
    (growth c.args.children) (growth c.in_ok-children.field-0.children) is
    (c.as_slice-4.ensures ∙ c.in_ok-styles.ensures) n c.of.ensures c.in_ok-children.ensures
