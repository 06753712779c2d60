-- The text of `data-parsoid` is its pieces.
use Rattle.std.proofs.Common.{◌≡◌, ℕ, List, [], ◌∷◌, ◌++◌, Option, Some, None, codes, decimal, ap, ◌∙◌, append_assoc}
use Rattle.json.specs.Print.{quoted}
use Rattle.serde_json.specs.Data.{object, no_members}
use Rattle.serde_json.specs.Written.{compact_text}
use Rattle.wt_tree.specs.declared.kind.Ranges.{Ranges}
use Rattle.wt_datamw.specs.declared.sync.Sync.{Sync}
use Rattle.wt_datamw.specs.Sync.{dsr_data, put_dsr, put_text, put_source, sync_members, sync_text}
use Rattle.wt_datamw.specs.SyncPieces.{closing_text, dsr_text, opening_text, source_text, sync_pieces}

four : (k a b c d rest : List ℕ) → k ++ (58 ∷ 91 ∷ (a ++ 44 ∷ (b ++ 44 ∷ (c ++ 44 ∷ (d ++ 93 ∷ rest)))))
    ≡ (k ++ (58 ∷ 91 ∷ (a ++ ((44 ∷ b) ++ ((44 ∷ c) ++ ((44 ∷ d) ++ 93 ∷ [])))))) ++ rest
four k a b c d rest = simp append_assoc

regroup : (a b c d rest : List ℕ) → (a ++ 44 ∷ (b ++ 44 ∷ (c ++ 44 ∷ (d ++ 93 ∷ [])))) ++ rest ≡ a ++ 44 ∷ (b ++ 44 ∷ (c ++ 44 ∷ (d ++ 93 ∷ rest)))
regroup a b c d rest = simp append_assoc

dsr_then : (r : Ranges) (rest : List ℕ) → quoted (codes "dsr") ++ 58 ∷ (compact_text (dsr_data r) ++ rest) ≡ dsr_text r ++ rest
unfolding dsr_text
dsr_then r rest =
    ap (λ xs. quoted (codes "dsr") ++ 58 ∷ 91 ∷ xs) (regroup (decimal r.start) (decimal r.end) (decimal r.open_w) (decimal r.close_w) rest)
    ∙ four (quoted (codes "dsr")) (decimal r.start) (decimal r.end) (decimal r.open_w) (decimal r.close_w) rest

later : (k t rest : List ℕ) → 44 ∷ (k ++ 58 ∷ (t ++ rest)) ≡ (44 ∷ (k ++ 58 ∷ t)) ++ rest
later k t rest = simp append_assoc

earlier : (k t rest : List ℕ) → k ++ 58 ∷ (t ++ 44 ∷ rest) ≡ (k ++ 58 ∷ (t ++ 44 ∷ [])) ++ rest
earlier k t rest = simp append_assoc

pub pushed : (a b c d e f g x1 x2 x3 x4 x5 x6 : List ℕ) → b ≡ a ++ x1 → c ≡ b ++ x2 → d ≡ c ++ x3 → e ≡ d ++ x4 → f ≡ e ++ x5 → g ≡ f ++ x6
    → g ≡ a ++ (x1 ++ (x2 ++ (x3 ++ (x4 ++ (x5 ++ x6)))))
pushed a b c d e f g x1 x2 x3 x4 x5 x6 p q r s t u = rw (u, t, s, r, q, p) (simp append_assoc)

pieces_are : (r : Ranges) (o c : List ℕ) (src : Option (List ℕ))
    → compact_text (object (put_source src (put_text (codes "o") o (put_dsr r (put_text (codes "c") c no_members)))))
    ≡ codes "{" ++ (closing_text c ++ (dsr_text r ++ (opening_text o ++ (source_text src ++ codes "}"))))
pieces_are r [] [] None = ap (λ xs. 123 ∷ xs) (dsr_then r (125 ∷ []))
pieces_are r [] [] (Some s) = ap (λ xs. 123 ∷ xs) (dsr_then r _ ∙ ap (λ xs. dsr_text r ++ xs) (later (quoted (codes "src")) (quoted s) (125 ∷ [])))
pieces_are r [] (b ∷ bs) None =
    ap (λ xs. 123 ∷ xs) (earlier (quoted (codes "c")) (quoted (b ∷ bs)) _ ∙ ap (λ xs. closing_text (b ∷ bs) ++ xs) (dsr_then r (125 ∷ [])))
pieces_are r [] (b ∷ bs) (Some s) =
    ap (λ xs. 123 ∷ xs) (earlier (quoted (codes "c")) (quoted (b ∷ bs)) _ ∙ ap (λ xs. closing_text (b ∷ bs) ++ xs)
    (dsr_then r _ ∙ ap (λ xs. dsr_text r ++ xs) (later (quoted (codes "src")) (quoted s) (125 ∷ []))))
pieces_are r (d ∷ ds) [] None = ap (λ xs. 123 ∷ xs) (dsr_then r _ ∙ ap (λ xs. dsr_text r ++ xs) (later (quoted (codes "o")) (quoted (d ∷ ds)) (125 ∷ [])))
pieces_are r (d ∷ ds) [] (Some s) =
    ap (λ xs. 123 ∷ xs) (dsr_then r _ ∙ ap (λ xs. dsr_text r ++ xs) (later (quoted (codes "o")) (quoted (d ∷ ds)) _
    ∙ ap (λ xs. opening_text (d ∷ ds) ++ xs) (later (quoted (codes "src")) (quoted s) (125 ∷ []))))
pieces_are r (d ∷ ds) (b ∷ bs) None =
    ap (λ xs. 123 ∷ xs) (earlier (quoted (codes "c")) (quoted (b ∷ bs)) _ ∙ ap (λ xs. closing_text (b ∷ bs) ++ xs)
    (dsr_then r _ ∙ ap (λ xs. dsr_text r ++ xs) (later (quoted (codes "o")) (quoted (d ∷ ds)) (125 ∷ []))))
pieces_are r (d ∷ ds) (b ∷ bs) (Some s) =
    ap (λ xs. 123 ∷ xs) (earlier (quoted (codes "c")) (quoted (b ∷ bs)) _ ∙ ap (λ xs. closing_text (b ∷ bs) ++ xs)
    (dsr_then r _ ∙ ap (λ xs. dsr_text r ++ xs) (later (quoted (codes "o")) (quoted (d ∷ ds)) _
    ∙ ap (λ xs. opening_text (d ∷ ds) ++ xs) (later (quoted (codes "src")) (quoted s) (125 ∷ [])))))

pub sync_text_pieces : (s : Sync) → sync_text s ≡ sync_pieces s
unfolding sync_text sync_members
sync_text_pieces s = pieces_are s.dsr s.opening s.closing s.src
