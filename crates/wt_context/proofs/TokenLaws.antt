-- The segments of tokens are told rightly.
use Rattle.std.proofs.Common.{◌≡◌, ℕ, ◌+◌, ◌<◌, ◌≤◌, List, [], ◌∷◌, ◌++◌, length, take, drop, get_or, refl, sym, ap, ◌∙◌, arith, append-nil, append_assoc, length-append}
use Rattle.std.proofs.lemmas.List.{take_more, take_all, take-append-drop}
use Rattle.std.proofs.lemmas.Grind.{flat_map-append}
use Rattle.wt_span.specs.Items.{Item, items, items_of}
use Rattle.wt_quotes.specs.declared.chunk.Chunk.{Chunk}
use Rattle.wt_context.specs.declared.chunk.Chunking.{Chunking}
use Rattle.wt_context.specs.declared.token.Token.{Token}
use Rattle.wt_context.specs.declared.token.Token.TheVariants as token
use Rattle.wt_context.specs.Segments.{Segment}
use Rattle.wt_context.specs.Tokens.{quote_segments, token_segments, segments_of}
use Rattle.wt_context.specs.Seen.{nothing_seen}
use Rattle.wt_context.specs.Chunks.{chunks}
use Rattle.wt_context.specs.Chunking.{chunks_after, chunked, IsChunked, IsClosed}
use Rattle.wt_context.proofs.ChunkSteps.{plain_first}
use Rattle.wt_context.proofs.ChunkLaws.{AreProper, proper_both, chunks_are}

proper_quotes : (xs : List Item) → AreProper (quote_segments xs)
proper_quotes [] = tt
proper_quotes (x ∷ xs) = (λ e. (x, refl, e), proper_quotes xs)

proper_token : (t : Token) → AreProper (token_segments t)
proper_token (token.Quotes q) = proper_quotes (items_of q.piece)
proper_token (token.Stretch s) = (λ e. let no = sym e ∙ plain_first (items s.pieces) s.plain in cc, tt)
proper_token (token.Tile t) = (λ e. cc, tt)

pub proper_tokens : (ts : List Token) → AreProper (segments_of ts)
proper_tokens [] = tt
proper_tokens (t ∷ ts) = proper_both (token_segments t) (segments_of ts) (proper_token t) (proper_tokens ts)

-- ---- one token more

pub tokens_more : (ts : List Token) (at : ℕ) (t : Token) → at < length ts → t ≡ get_or ts at t
    → segments_of (take (at + 1) ts) ≡ segments_of (take at ts) ++ token_segments t
tokens_more ts at t l e =
    let more : take (at + 1) ts ≡ take at ts ++ t ∷ [] = take_more ts at t l ∙ ap (λ q. take at ts ++ q ∷ []) (sym e) in
    ap segments_of more ∙ flat_map-append token_segments (take at ts) (t ∷ []) ∙ ap (λ us. segments_of (take at ts) ++ us) (append-nil (token_segments t))

-- so many tokens have no more segments than all
pub front_short : (ts : List Token) (n : ℕ) → length (segments_of (take n ts)) ≤ length (segments_of ts)
front_short ts n =
    let all = ap (λ us. length (segments_of us)) (take-append-drop n ts) in
    let both = ap length (flat_map-append token_segments (take n ts) (drop n ts)) in
    omega (arith, all, both, length-append (segments_of (take n ts)) (segments_of (drop n ts)))

-- the segments so far and those of one more token are as few as all
pub count_room : (ts : List Token) (at count m n : ℕ) (t : Token) → at < length ts → t ≡ get_or ts at t → length (segments_of ts) < n
    → count ≡ length (segments_of (take at ts)) → m ≡ length (token_segments t) → count + m < n
count_room ts at count m n t l e h c k =
    let more = ap length (tokens_more ts at t l e) in
    omega (arith, more, length-append (segments_of (take at ts)) (token_segments t), front_short ts (at + 1), h, c, k)

abbrev pub AreChunked : Chunking → List Token → ℕ → Type 0
AreChunked c ts at = ((us : List Segment) → chunked c us ≡ chunks_after nothing_seen 0 (segments_of (take at ts) ++ us))
    × (c.quotes ≤ length (segments_of (take at ts)))

take_none : (ts : List Token) → take 0 ts ≡ []
take_none [] = refl
take_none (t ∷ ts) = refl

pub none_chunked : (c : Chunking) (cs : List Chunk) (ts : List Token) → c.chunks ≡ [] → c.seen ≡ nothing_seen → c.quotes ≡ 0 → AreChunked c ts 0
none_chunked c cs ts e f g = (
  λ us. ap (λ xs. xs ++ chunks_after c.seen c.quotes us) e ∙ ap (λ s. chunks_after s c.quotes us) f ∙ ap (λ n. chunks_after nothing_seen n us) g
      ∙ ap (λ xs. chunks_after nothing_seen 0 (segments_of xs ++ us)) (sym (take_none ts)),
  omega (arith, g),
)

pub chunk_room : (c : Chunking) (ts : List Token) (at n : ℕ) (t : Token) → at < length ts → t ≡ get_or ts at t → length (segments_of ts) < n
    → AreChunked c ts at → c.quotes + length (token_segments t) < n
chunk_room c ts at n t l e h a =
    let m = ap length (tokens_more ts at t l e) in
    omega (arith, m, length-append (segments_of (take at ts)) (token_segments t), front_short ts (at + 1), a.1)

pub chunk_step : (c d : Chunking) (ts : List Token) (at : ℕ) (t : Token) → at < length ts → t ≡ get_or ts at t → IsChunked c (token_segments t) d
    → d.quotes ≤ c.quotes + length (token_segments t) → AreChunked c ts at → AreChunked d ts (at + 1)
chunk_step c d ts at t l e h q a =
    let m = tokens_more ts at t l e in
    let k = ap length m in (
      λ us. h us ∙ a.0 (token_segments t ++ us)
          ∙ ap (chunks_after nothing_seen 0) (sym (append_assoc (segments_of (take at ts)) (token_segments t) us) ∙ ap (λ xs. xs ++ us) (sym m)),
      omega (arith, k, length-append (segments_of (take at ts)) (token_segments t), a.1, q),
    )

pub chunk_done : (c d : Chunking) (ts : List Token) (at : ℕ) → length ts ≤ at → IsClosed c d → AreChunked c ts at → d.chunks ≡ chunks (segments_of ts)
chunk_done c d ts at l h a =
    sym (append-nil d.chunks) ∙ h.1 (λ s. []) ∙ a.0 []
    ∙ ap (chunks_after nothing_seen 0) (append-nil (segments_of (take at ts)) ∙ ap segments_of (take_all at ts l))
    ∙ sym (chunks_are (segments_of ts) (proper_tokens ts))
