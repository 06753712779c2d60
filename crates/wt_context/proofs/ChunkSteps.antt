-- Chunks while segments are read.
use Rattle.std.proofs.Common.{◌≡◌, ℕ, suc, ◌+◌, Bool, true, false, List, [], ◌∷◌, ◌++◌, length, refl, sym, ap, ◌∙◌, arith, append_assoc}
use Rattle.std.specs.Prelude.{not}
use Rattle.wt_span.specs.Items.{Item}
use Rattle.wt_context.specs.declared.seen.Seen.{Seen}
use Rattle.wt_context.specs.declared.chunk.Chunking.{Chunking}
use Rattle.wt_context.specs.Segments.{Segment, is_quote, are_quotes, are_plain, is_first_quote}
use Rattle.wt_context.specs.Seen.{after_items}
use Rattle.wt_context.specs.Tokens.{quote_segments}
use Rattle.wt_context.specs.Chunking.{other, flushed, chunks_after, IsChunked, IsClosed, IsOther}
use Rattle.wt_context.proofs.Quoting.{and_left, and_right}

pub plain_first : (xs : List Item) → are_plain xs ≡ true → is_first_quote xs ≡ false
plain_first [] e = refl
plain_first (x ∷ xs) e = not_true (is_quote x) (and_left (not (is_quote x)) (are_plain xs) e)
  where
    not_true : (a : Bool) → not a ≡ true → a ≡ false
    not_true true f = cc
    not_true false f = refl

after_other_is : (s : Seen) (n : ℕ) (u : Segment) (us : List Segment) (xs : List Item) → u.quote ≡ false → u.items ≡ xs
    → chunks_after s n (u ∷ us) ≡ flushed s n (λ t. other (after_items t xs) ∷ chunks_after (after_items t xs) 0 us)
after_other_is s n u us xs e f = rw e (ap (λ ys. flushed s n (λ t. other (after_items t ys) ∷ chunks_after (after_items t ys) 0 us)) f)

pub other_more : (c d e : Chunking) (xs : List Item) → IsClosed c d → IsOther d (after_items d.seen xs) e → (u : Segment) → u.quote ≡ false → u.items ≡ xs
    → IsChunked c (u ∷ []) e
other_more c d e xs h o u q i us =
    let t = after_items d.seen xs in
    ap (λ cs. cs ++ chunks_after e.seen e.quotes us) o.0
    ∙ append_assoc d.chunks (other t ∷ []) (chunks_after e.seen e.quotes us)
    ∙ ap (λ s. d.chunks ++ other t ∷ chunks_after s e.quotes us) o.1
    ∙ ap (λ n. d.chunks ++ other t ∷ chunks_after t n us) o.2
    ∙ h.1 (λ s. other (after_items s xs) ∷ chunks_after (after_items s xs) 0 us)
    ∙ ap (λ cs. c.chunks ++ cs) (sym (after_other_is c.seen c.quotes u us xs q i))

quotes_after : (s : Seen) (n m : ℕ) (xs : List Item) (us : List Segment) → are_quotes xs ≡ true → m ≡ n + length xs
    → chunks_after s m us ≡ chunks_after s n (quote_segments xs ++ us)
quotes_after s n m [] us e f = let z : m ≡ n = omega (arith, f) in ap (λ k. chunks_after s k us) z
quotes_after s n m (x ∷ xs) us e f =
    let q = and_left (is_quote x) (are_quotes xs) e in
    let z : m ≡ suc n + length xs = omega (arith, f) in
    rw q (quotes_after s (suc n) m xs us (and_right (is_quote x) (are_quotes xs) e) z)

pub quotes_more : (c d : Chunking) (xs : List Item) → are_quotes xs ≡ true → d.chunks ≡ c.chunks → d.seen ≡ c.seen → d.quotes ≡ c.quotes + length xs
    → IsChunked c (quote_segments xs) d
quotes_more c d xs e f g h us =
    ap (λ cs. cs ++ chunks_after d.seen d.quotes us) f
    ∙ ap (λ s. c.chunks ++ chunks_after s d.quotes us) g
    ∙ ap (λ cs. c.chunks ++ cs) (quotes_after c.seen c.quotes d.quotes xs us e h)
