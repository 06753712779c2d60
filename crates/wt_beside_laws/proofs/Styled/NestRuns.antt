-- The runs of apostrophes of segments among which styles nest are the delimiters of these styles, each at its place.
use Rattle.std.proofs.Common.{arith, ◌≡◌, ℕ, ◌+◌, Bool, true, false, not, List, [], ◌∷◌, ◌++◌, length, refl, ap, ◌∙◌, append-nil, Option}
use Rattle.std.specs.Prelude.{◌||◌}
use Rattle.wt_quotes.specs.declared.chunk.Chunk.{Chunk}
use Rattle.wt_quotes.specs.declared.chunk.Chunk.TheVariants as chunk
use Rattle.wt_quotes.specs.Runs.{bytes_of}
use Rattle.wt_quotes.specs.Styles.{width}
use Rattle.wt_context.specs.Segments.{Segment}
use Rattle.wt_context.specs.Chunks.{begins_with_quote, chunks}
use Rattle.wt_context.specs.RunCuts.{ends_with_quote, IsRunBetween, has_run}
use Rattle.wt_context.proofs.ChunkCuts.{cut_at_run}
use Rattle.wt_context.proofs.ChunkLaws.{chunk_bytes_are}
use Rattle.wt_text_edit_laws.proofs.Texts.StillLines.{HasNoRun}
use Rattle.wt_beside_laws.specs.Nests.{Nest, stretch, enclosing, segments_of, nest_segments, IsNest}
use Rattle.wt_beside_laws.proofs.LineSegments.{no_run_chunks}

-- ---- runs with their places

abbrev pub runs_from : ℕ → List Chunk → List (ℕ × ℕ)
runs_from at [] = []
runs_from at (chunk.Text n l b ∷ cs) = runs_from (at + n) cs
runs_from at (chunk.Run n ∷ cs) = (at, n) ∷ runs_from (at + n) cs
runs_from at (chunk.Tile n l b ∷ cs) = runs_from (at + n) cs

runs_behind : (at : ℕ) (cs ds : List Chunk) → HasNoRun cs → runs_from at (cs ++ ds) ≡ runs_from (at + bytes_of cs) ds
runs_behind at [] ds h = let z : at ≡ at + 0 = omega arith in ap (λ (m : ℕ). runs_from m ds) z
runs_behind at (chunk.Text n l b ∷ cs) ds h =
    let z : (at + n) + bytes_of cs ≡ at + (n + bytes_of cs) = omega arith in runs_behind (at + n) cs ds h ∙ ap (λ (m : ℕ). runs_from m ds) z
runs_behind at (chunk.Run n ∷ cs) ds h = absurd h
runs_behind at (chunk.Tile n l b ∷ cs) ds h =
    let z : (at + n) + bytes_of cs ≡ at + (n + bytes_of cs) = omega arith in runs_behind (at + n) cs ds h ∙ ap (λ (m : ℕ). runs_from m ds) z

runs_none : (at : ℕ) (cs : List Chunk) → HasNoRun cs → runs_from at cs ≡ []
runs_none at [] h = refl
runs_none at (chunk.Text n l b ∷ cs) h = runs_none (at + n) cs h
runs_none at (chunk.Run n ∷ cs) h = absurd h
runs_none at (chunk.Tile n l b ∷ cs) h = runs_none (at + n) cs h

-- ---- delimiters with their places, and whether they are bold

abbrev pub nest_length : Nest → ℕ
nest_length (stretch us) = length us
nest_length (enclosing origin us kind inside after) = length us + width kind + nest_length inside + width kind + nest_length after

-- from this place on, before others
abbrev pub delimiters : ℕ → Nest → List (ℕ × Bool) → List (ℕ × Bool)
delimiters at (stretch us) ws = ws
delimiters at (enclosing origin us kind inside after) ws =
    (at + length us, kind) ∷ delimiters (at + length us + width kind) inside
    ((at + length us + width kind + nest_length inside, kind) ∷ delimiters (at + length us + width kind + nest_length inside + width kind) after ws)

abbrev pub as_runs : List (ℕ × Bool) → List (ℕ × ℕ)
as_runs [] = []
as_runs (w ∷ ws) = (w.0, width w.1) ∷ as_runs ws

-- ---- a delimiter is a run

pub marks_long : (origin : Option ℕ) (kind : Bool) → length (segments_of origin kind) ≡ width kind
marks_long origin true = refl
marks_long origin false = refl

pub marks_first : (origin : Option ℕ) (kind : Bool) (vs : List Segment) → begins_with_quote (segments_of origin kind ++ vs) ≡ true
marks_first origin true vs = refl
marks_first origin false vs = refl

run_between : (origin : Option ℕ) (us vs : List Segment) (kind : Bool) → ends_with_quote us ≡ false → begins_with_quote vs ≡ false → IsRunBetween us (segments_of origin kind) vs
run_between origin us vs true e b = record { quotes = (refl, (refl, (refl, tt))); some = omega arith; before = e; behind = b }
run_between origin us vs false e b = record { quotes = (refl, (refl, tt)); some = omega arith; before = e; behind = b }

cut_runs : (origin : Option ℕ) (us vs : List Segment) (kind : Bool) (at : ℕ) → has_run us ≡ false → ends_with_quote us ≡ false → begins_with_quote vs ≡ false
    → runs_from at (chunks (us ++ (segments_of origin kind ++ vs))) ≡ (at + length us, width kind) ∷ runs_from (at + length us + width kind) (chunks vs)
cut_runs origin us vs kind at a e b =
    ap (runs_from at) (cut_at_run us (segments_of origin kind) vs (run_between origin us vs kind e b))
    ∙ runs_behind at (chunks us) (chunk.Run (length (segments_of origin kind)) ∷ chunks vs) (no_run_chunks us a)
    ∙ ap (λ (m : ℕ). runs_from (at + m) (chunk.Run (length (segments_of origin kind)) ∷ chunks vs)) (chunk_bytes_are us)
    ∙ ap (λ (m : ℕ). (at + length us, m) ∷ runs_from (at + length us + m) (chunks vs)) (marks_long origin kind)

-- what follows makes these runs, behind a stretch that ends at a place
abbrev Behind : List Segment → (ℕ → List (ℕ × Bool)) → Type 0
Behind vs f =
    (us : List Segment) (at : ℕ) → has_run us ≡ false → (begins_with_quote vs ≡ true → ends_with_quote us ≡ false)
    → runs_from at (chunks (us ++ vs)) ≡ as_runs (f (at + length us))

nest_runs : (bold italic : Bool) (n : Nest) (vs : List Segment) (f : ℕ → List (ℕ × Bool)) (at : ℕ) → IsNest bold italic n vs → Behind vs f
    → runs_from at (chunks (nest_segments n vs)) ≡ as_runs (delimiters at n (f (at + nest_length n)))
nest_runs bold italic (stretch us) vs f at h b = b us at h.0 h.1
nest_runs bold italic (enclosing origin us kind inside after) vs f at h b =
    let p : ℕ = at + length us in
    let q : ℕ = p + width kind in
    let r : ℕ = q + nest_length inside in
    let later : List Segment = nest_segments after vs in
    let rest : ℕ → List (ℕ × Bool) = λ (m : ℕ). delimiters (m + width kind) after (f (m + width kind + nest_length after)) in
    let own : Behind (segments_of origin kind ++ later) (λ (m : ℕ). (m, kind) ∷ rest m) =
    λ ws m a e. cut_runs origin ws later kind m a (e (marks_first origin kind later)) h.5
    ∙ ap (λ xs. (m + length ws, width kind) ∷ xs) (nest_runs bold italic after vs f (m + length ws + width kind) h.6 b) in
    let end : r + width kind + nest_length after ≡ at + (length us + width kind + nest_length inside + width kind + nest_length after) = omega arith in
    cut_runs origin us (nest_segments inside (segments_of origin kind ++ later)) kind at h.0 h.1 h.3
    ∙ ap (λ xs. (p, width kind) ∷ xs)
    (nest_runs (kind || bold) (not kind || italic) inside (segments_of origin kind ++ later) (λ (m : ℕ). (m, kind) ∷ rest m) q h.4 own)
    ∙ ap (λ (m : ℕ). (p, width kind) ∷ as_runs (delimiters q inside ((r, kind) ∷ delimiters (r + width kind) after (f m)))) end

pub all_runs : (n : Nest) → IsNest false false n [] → runs_from 0 (chunks (nest_segments n [])) ≡ as_runs (delimiters 0 n [])
all_runs n h =
    nest_runs false false n [] (λ m. []) 0 h
    (λ us at a e. ap (λ vs. runs_from at (chunks vs)) (append-nil us) ∙ runs_none at (chunks us) (no_run_chunks us a))
