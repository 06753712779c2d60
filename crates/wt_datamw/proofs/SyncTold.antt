-- The text of `data-parsoid` is read as what was written.
use Rattle.std.proofs.Common.{◌≡◌, ℕ, ◌<◌, ◌≤◌, ◌^◌, Option, Some, None, List, [], ◌∷◌, decimal, refl, sym, ap, ◌∙◌, arith, append-nil, codes, option_and_then}
use Rattle.std.specs.Prelude.{Ok}
use Rattle.json.specs.Token.{Token}
use Rattle.json.specs.Lex.{tokens}
use Rattle.json.specs.Json as json
use Rattle.json.specs.Tree as tree
use Rattle.json.proofs.Printed.Decimals.{IsNumber-decimal}
use Rattle.json.proofs.Printed.Tokens.{tokens-print}
use Rattle.json.proofs.Printed.Trees.{value-json_tokens, ArePrintable-json_tokens}
use Rattle.serde_json.specs.Data.{unsigned, Data, object, no_members}
use Rattle.serde_json.specs.Read.{number_of, of_json, read, max_depth}
use Rattle.serde_json.specs.Written.{outline, compact_text}
use Rattle.serde_json.proofs.Numbers.{number_of-decimal}
use Rattle.serde_json.proofs.Texts.{print-outline}
use Rattle.wt_tree.specs.declared.kind.Ranges.{Ranges}
use Rattle.wt_datamw.specs.declared.sync.Sync.{Sync}
use Rattle.wt_datamw.specs.Sync.{put_dsr, put_text, put_source, sync_members, sync_data, sync_text}
use Rattle.wt_datamw.specs.SyncRead.{sync_of_json, sync_told, IsSmall}
use Rattle.wt_datamw.proofs.ReadsBack.{reads_small}

abbrev whole : Option (json.Json × List Token) → Option Data
whole o = option_and_then of_json (option_and_then (λ p. json.if_last p.0 p.1) o)

pub json_read : (d : Data) → tree.HasNumbers (outline d) → tree.depth (outline d) ≤ max_depth → of_json (outline d) ≡ Some d → read (compact_text d) ≡ Some d
json_read d numbers shallow same =
    let j : json.Json = outline d in
    let text : tokens (compact_text d) ≡ tree.json_tokens j = ap tokens (sym (print-outline d))
    ∙ tokens-print (tree.json_tokens j) (ArePrintable-json_tokens j numbers) in
    ap whole (ap (json.value max_depth) (text ∙ sym (append-nil _)) ∙ value-json_tokens j max_depth [] shallow) ∙ same

-- the parts of `data-parsoid`
abbrev parts : Ranges → List ℕ → List ℕ → Option (List ℕ) → Data
parts r o c src = object (put_source src (put_text (codes "o") o (put_dsr r (put_text (codes "c") c no_members))))

abbrev AreSmall : Ranges → Type 0
AreSmall r = (r.start < 2 ^ 64) × (r.end < 2 ^ 64) × (r.open_w < 2 ^ 64) × (r.close_w < 2 ^ 64)

abbrev AreNumbers : Ranges → Type 0
AreNumbers r = tree.HasNumbers (json.number (decimal r.start)) × tree.HasNumbers (json.number (decimal r.end))
    × tree.HasNumbers (json.number (decimal r.open_w)) × tree.HasNumbers (json.number (decimal r.close_w))

parts_numbers : (r : Ranges) (o c : List ℕ) (src : Option (List ℕ)) → AreNumbers r → tree.HasNumbers (outline (parts r o c src))
parts_numbers r [] [] None n = ((n.0, (n.1, (n.2, (n.3, tt)))), tt)
parts_numbers r [] [] (Some t) n = ((n.0, (n.1, (n.2, (n.3, tt)))), (tt, tt))
parts_numbers r [] (b ∷ bs) None n = (tt, ((n.0, (n.1, (n.2, (n.3, tt)))), tt))
parts_numbers r [] (b ∷ bs) (Some t) n = (tt, ((n.0, (n.1, (n.2, (n.3, tt)))), (tt, tt)))
parts_numbers r (d ∷ ds) [] None n = ((n.0, (n.1, (n.2, (n.3, tt)))), (tt, tt))
parts_numbers r (d ∷ ds) [] (Some t) n = ((n.0, (n.1, (n.2, (n.3, tt)))), (tt, (tt, tt)))
parts_numbers r (d ∷ ds) (b ∷ bs) None n = (tt, ((n.0, (n.1, (n.2, (n.3, tt)))), (tt, tt)))
parts_numbers r (d ∷ ds) (b ∷ bs) (Some t) n = (tt, ((n.0, (n.1, (n.2, (n.3, tt)))), (tt, (tt, tt))))

parts_depth : (r : Ranges) (o c : List ℕ) (src : Option (List ℕ)) → tree.depth (outline (parts r o c src)) ≡ 2
parts_depth r [] [] None = refl
parts_depth r [] [] (Some t) = refl
parts_depth r [] (b ∷ bs) None = refl
parts_depth r [] (b ∷ bs) (Some t) = refl
parts_depth r (d ∷ ds) [] None = refl
parts_depth r (d ∷ ds) [] (Some t) = refl
parts_depth r (d ∷ ds) (b ∷ bs) None = refl
parts_depth r (d ∷ ds) (b ∷ bs) (Some t) = refl

-- the four numbers are read
abbrev AreRead : Ranges → Type 0
AreRead r =
    (number_of (decimal r.start) ≡ Some (unsigned r.start)) × (number_of (decimal r.end) ≡ Some (unsigned r.end))
    × (number_of (decimal r.open_w) ≡ Some (unsigned r.open_w)) × (number_of (decimal r.close_w) ≡ Some (unsigned r.close_w))

parts_read : (r : Ranges) (o c : List ℕ) (src : Option (List ℕ)) → AreRead r → of_json (outline (parts r o c src)) ≡ Some (parts r o c src)
parts_read r [] [] None n = rw (n.0, n.1, n.2, n.3)
parts_read r [] [] (Some t) n = rw (n.0, n.1, n.2, n.3)
parts_read r [] (b ∷ bs) None n = rw (n.0, n.1, n.2, n.3)
parts_read r [] (b ∷ bs) (Some t) n = rw (n.0, n.1, n.2, n.3)
parts_read r (d ∷ ds) [] None n = rw (n.0, n.1, n.2, n.3)
parts_read r (d ∷ ds) [] (Some t) n = rw (n.0, n.1, n.2, n.3)
parts_read r (d ∷ ds) (b ∷ bs) None n = rw (n.0, n.1, n.2, n.3)
parts_read r (d ∷ ds) (b ∷ bs) (Some t) n = rw (n.0, n.1, n.2, n.3)

are_small : (s : Sync) → IsSmall s → AreSmall s.dsr
are_small s h = (omega arith, omega arith, omega arith, omega arith)

pub sync_read : (s : Sync) → IsSmall s → sync_told (sync_text s) ≡ Ok s
unfolding sync_text sync_told sync_members
sync_read s h =
    let n : AreSmall s.dsr = are_small s h in
    let d : tree.depth (outline (sync_data s)) ≡ 2 = parts_depth s.dsr s.opening s.closing s.src in
    ap sync_of_json
    (json_read (sync_data s)
    (parts_numbers s.dsr s.opening s.closing s.src (IsNumber-decimal _ n.0, IsNumber-decimal _ n.1, IsNumber-decimal _ n.2, IsNumber-decimal _ n.3))
    (omega arith)
    (parts_read s.dsr s.opening s.closing s.src (number_of-decimal _ n.0, number_of-decimal _ n.1, number_of-decimal _ n.2, number_of-decimal _ n.3)))
    ∙ reads_small s h
