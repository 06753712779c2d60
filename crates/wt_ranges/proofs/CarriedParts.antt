-- The parts of a group as data, found by reading its pieces one after another.
use Rattle.std.proofs.Common.{◌≡◌, ℕ, ◌+◌, ◌<◌, ◌≤◌, Bool, true, false, Option, None, Some, List, [], ◌∷◌, ◌++◌, length, map, take, get_or, refl, sym, ap, ◌∙◌, cond, append_assoc, append-nil}
use Rattle.std.specs.Prelude.{slice_get, not, ◌&&◌}
use Rattle.std.proofs.lemmas.List.{take_all, take_more}
use Rattle.wt_tree.specs.declared.node.DataMw.TheVariants as mw
use Rattle.wt_tree.specs.declared.node.Part.{Part as Datum}
use Rattle.wt_span.specs.declared.form.Piece.{Piece}
use Rattle.wt_span.specs.Items.{Item, char, call_of_origin, items_of, items}
use Rattle.wt_span.specs.Origins.{OuterCall}
use Rattle.wt_span.specs.Slice.{bytes_of}
use Rattle.wt_ranges.specs.declared.carried.PartsSoFar.{PartsSoFar}
use Rattle.wt_ranges.specs.DataSoFar.{begins_at, TextFound, CallFound, all_parts, nothing_found, Continues}
use Rattle.wt_annotated.specs.GroupData.{call_parts, next_number, data_parts, group_data, literal_if_any}
use Rattle.wt_annotated.specs.GroupParts.{Part, called}
use Rattle.wt_annotated.specs.Pieces.{is_hollow}
use Rattle.wt_annotated.specs.Seams.{last_of, parted}
use Rattle.wt_annotated.specs.Walked.{longer, slice_since, part_step, parts_from}
use Rattle.wt_annotated.proofs.PieceWalks.{by_hollow, one_or_chars, page_parted, same_parted, last_piece, last_step, items_more}

-- ---- one piece

longer_join : (since : Option (List ℕ)) (xs ys : List ℕ) → longer (longer since xs) ys ≡ longer since (xs ++ ys)
longer_join None xs ys = refl
longer_join (Some zs) xs ys = ap Some (append_assoc zs xs ys)

longer_none : (since : Option (List ℕ)) → longer since [] ≡ since
longer_none None = refl
longer_none (Some zs) = ap Some (append-nil zs)

page_rest : (since : Option (List ℕ)) (bs : List ℕ) (rest : List Item)
    → parts_from None since (map (char None) bs ++ rest) ≡ parts_from None (longer since bs) rest
page_rest since [] rest = ap (λ s. parts_from None s rest) (sym (longer_none since))
page_rest since (b ∷ bs) rest = page_rest (longer since (b ∷ [])) bs rest ∙ ap (λ s. parts_from None s rest) (longer_join since (b ∷ []) bs)

call_rest : (k : ℕ) (since : Option (List ℕ)) (bs : List ℕ) (rest : List Item)
    → parts_from (Some k) since (map (char (Some k)) bs ++ rest) ≡ parts_from (Some k) since rest
call_rest k since [] rest = refl
call_rest k since (b ∷ bs) rest =
    ap (λ v. part_step v (Some k) (b ∷ []) since (λ s. parts_from (Some k) s (map (char (Some k)) bs ++ rest))) (same_parted k) ∙ call_rest k since bs rest

-- what comes of the parts where a piece begins that isn't tied to the item before it
abbrev pub begins : Option ℕ → List ℕ → Option (List ℕ) → List Item → List Part
begins None bs since rest = parts_from None (longer since bs) rest
begins (Some k) bs since rest = slice_since since ++ called k ∷ parts_from (Some k) (Some []) rest

step_by : (v : Bool) (k : ℕ) (b : ℕ) (cs bs : List ℕ) (since : Option (List ℕ)) (rest : List Item)
    → part_step v (Some k) (b ∷ []) since (λ s. parts_from (Some k) s (map (char (Some k)) cs ++ rest))
    ≡ cond v (begins (Some k) bs since rest) (parts_from (Some k) since rest)
step_by true k b cs bs since rest = ap (λ ps. slice_since since ++ called k ∷ ps) (call_rest k (Some []) cs rest)
step_by false k b cs bs since rest = call_rest k since cs rest

chars_parts : (o q : Option ℕ) (b : ℕ) (cs bs : List ℕ) (since : Option (List ℕ)) (rest : List Item) → bs ≡ b ∷ cs
    → parts_from o since (map (char q) (b ∷ cs) ++ rest) ≡ cond (parted o q) (begins q bs since rest) (parts_from q since rest)
chars_parts o None b cs bs since rest e =
    ap (λ v. part_step v None (b ∷ []) since (λ s. parts_from None s (map (char None) cs ++ rest))) (page_parted o)
    ∙ page_rest (longer since (b ∷ [])) cs rest
    ∙ ap (λ s. parts_from None s rest) (longer_join since (b ∷ []) cs ∙ ap (longer since) (sym e))
    ∙ sym (ap (λ v. cond v (parts_from None (longer since bs) rest) (parts_from None since rest)) (page_parted o))
chars_parts o (Some k) b cs bs since rest e = step_by (parted o (Some k)) k b cs bs since rest

whole_by : (v : Bool) (q : Option ℕ) (bs : List ℕ) (since : Option (List ℕ)) (rest : List Item)
    → (q ≡ None → v ≡ true) → part_step v q bs since (λ s. parts_from q s rest) ≡ cond v (begins q bs since rest) (parts_from q since rest)
whole_by true None bs since rest n = refl
whole_by true (Some k) bs since rest n = refl
whole_by false q bs since rest n = refl

page_free : (o q : Option ℕ) → q ≡ None → parted o q ≡ true
page_free o q e = ap (parted o) e ∙ page_parted o

piece_parts : (o : Option ℕ) (p : Piece) (since : Option (List ℕ)) (rest : List Item)
    → parts_from o since (items_of p ++ rest)
    ≡ cond (is_hollow p) (parts_from o since rest)
    (cond (parted o (call_of_origin p.origin)) (begins (call_of_origin p.origin) (bytes_of p.text) since rest)
    (parts_from (call_of_origin p.origin) since rest))
piece_parts o p since rest =
    let q : Option ℕ = call_of_origin p.origin in
    let bs : List ℕ = bytes_of p.text in
    by_hollow (λ xs v. parts_from o since (xs ++ rest)
    ≡ cond v (parts_from o since rest) (cond (parted o q) (begins q bs since rest) (parts_from q since rest))) p.form q bs refl
    (λ b cs e. chars_parts o q b cs bs since rest e) (whole_by (parted o q) q bs since rest (page_free o q))
    (one_or_chars p.form q bs)

-- ---- what is found

data_since : (calls : List OuterCall) (i : ℕ) (since : Option (List ℕ)) (ps : List Part)
    → data_parts calls i (slice_since since ++ ps) ≡ literal_if_any since ++ data_parts calls i ps
data_since calls i None ps = refl
data_since calls i (Some []) ps = refl
data_since calls i (Some (b ∷ bs)) ps = refl

stays_by : (calls : List OuterCall) (o : Option ℕ) (f : PartsSoFar) (p : Piece) (rest : List Item) (h v : Bool) → is_hollow p ≡ h
    → parted o (call_of_origin p.origin) ≡ v → (not h && v) ≡ false
    → all_parts calls f (cond h o (call_of_origin p.origin)) rest
    ≡ f.parts ++ data_parts calls f.number
    (cond h (parts_from o f.since rest)
    (cond v (begins (call_of_origin p.origin) (bytes_of p.text) f.since rest) (parts_from (call_of_origin p.origin) f.since rest)))
stays_by calls o f p rest true v h e t = refl
stays_by calls o f p rest false true h e t = cc t
stays_by calls o f p rest false false h e t = refl

-- a piece that doesn't begin changes nothing
pub stays : (calls : List OuterCall) (o : Option ℕ) (f : PartsSoFar) (p : Piece) → begins_at o p ≡ false → Continues calls o f (items_of p) f
stays calls o f p t rest =
    ap (λ q. all_parts calls f q rest) (last_piece o p)
    ∙ stays_by calls o f p rest (is_hollow p) (parted o (call_of_origin p.origin)) refl refl t
    ∙ ap (λ ps. f.parts ++ data_parts calls f.number ps) (sym (piece_parts o p f.since rest))

pub begun : (o : Option ℕ) (p : Piece) → begins_at o p ≡ true → (is_hollow p ≡ false) × (parted o (call_of_origin p.origin) ≡ true)
begun o p t = by (is_hollow p) (parted o (call_of_origin p.origin)) refl refl t
  where
    by : (h v : Bool) → is_hollow p ≡ h → parted o (call_of_origin p.origin) ≡ v → (not h && v) ≡ true
        → (is_hollow p ≡ false) × (parted o (call_of_origin p.origin) ≡ true)
    by true v a b t = cc t
    by false true a b t = (a, b)
    by false false a b t = cc t

-- a piece that begins: what its parts come to
opened : (calls : List OuterCall) (o : Option ℕ) (f : PartsSoFar) (p : Piece) (q : Option ℕ) (rest : List Item) → is_hollow p ≡ false
    → parted o (call_of_origin p.origin) ≡ true → call_of_origin p.origin ≡ q
    → all_parts calls f o (items_of p ++ rest) ≡ f.parts ++ data_parts calls f.number (begins q (bytes_of p.text) f.since rest)
opened calls o f p q rest h v e =
    let r : Option ℕ = call_of_origin p.origin in
    ap (λ ps. f.parts ++ data_parts calls f.number ps)
    (piece_parts o p f.since rest
    ∙ ap (λ w. cond w (parts_from o f.since rest) (cond (parted o r) (begins r (bytes_of p.text) f.since rest) (parts_from r f.since rest))) h
    ∙ ap (λ w. cond w (begins r (bytes_of p.text) f.since rest) (parts_from r f.since rest)) v
    ∙ ap (λ x. begins x (bytes_of p.text) f.since rest) e)

last_is : (o : Option ℕ) (p : Piece) (q : Option ℕ) → is_hollow p ≡ false → call_of_origin p.origin ≡ q → last_of o (items_of p) ≡ q
last_is o p q h e = last_piece o p ∙ ap (λ w. cond w o (call_of_origin p.origin)) h ∙ e

pub text_goes_on : (calls : List OuterCall) (o : Option ℕ) (f g : PartsSoFar) (p : Piece) → is_hollow p ≡ false → parted o (call_of_origin p.origin) ≡ true
    → call_of_origin p.origin ≡ None → TextFound f (bytes_of p.text) g → Continues calls o f (items_of p) g
text_goes_on calls o f g p h v e t rest =
    ap (λ q. all_parts calls g q rest) (last_is o p None h e)
    ∙ ap (λ ps. ps ++ data_parts calls g.number (parts_from None g.since rest)) t.parts
    ∙ ap (λ n. f.parts ++ data_parts calls n (parts_from None g.since rest)) t.number
    ∙ ap (λ s. f.parts ++ data_parts calls f.number (parts_from None s rest)) t.since
    ∙ sym (opened calls o f p None rest h v e)

pub call_goes_on : (calls : List OuterCall) (o : Option ℕ) (f g : PartsSoFar) (p : Piece) (k : ℕ) → is_hollow p ≡ false
    → parted o (call_of_origin p.origin) ≡ true → call_of_origin p.origin ≡ Some k → CallFound calls f k g → Continues calls o f (items_of p) g
call_goes_on calls o f g p k h v e t rest =
    let here : List Datum = call_parts (slice_get calls k) f.number in
    let more : List Datum = data_parts calls (next_number (slice_get calls k) f.number) (parts_from (Some k) (Some []) rest) in
    ap (λ q. all_parts calls g q rest) (last_is o p (Some k) h e)
    ∙ ap (λ ps. ps ++ data_parts calls g.number (parts_from (Some k) g.since rest)) t.parts
    ∙ ap (λ n. ((f.parts ++ literal_if_any f.since) ++ here) ++ data_parts calls n (parts_from (Some k) g.since rest)) t.number
    ∙ ap (λ s. ((f.parts ++ literal_if_any f.since) ++ here)
    ++ data_parts calls (next_number (slice_get calls k) f.number) (parts_from (Some k) s rest)) t.since
    ∙ append_assoc (f.parts ++ literal_if_any f.since) here more
    ∙ append_assoc f.parts (literal_if_any f.since) (here ++ more)
    ∙ ap (λ ds. f.parts ++ ds) (sym (data_since calls f.number f.since (called k ∷ parts_from (Some k) (Some []) rest)))
    ∙ sym (opened calls o f p (Some k) rest h v e)

-- ---- several pieces

pub goes_on : (calls : List OuterCall) (ps : List Piece) (at : ℕ) (p : Piece) (o last : Option ℕ) (first f g : PartsSoFar) → at < length ps → p ≡ get_or ps at p
    → Continues calls o first (items (take at ps)) f → last ≡ last_of o (items (take at ps)) → Continues calls last f (items_of p) g
    → Continues calls o first (items (take (at + 1) ps)) g
goes_on calls ps at p o last first f g l e h m n rest =
    let e_last : last_of o (items (take (at + 1) ps)) ≡ last_of last (items_of p) = last_step ps at p o l e ∙ ap (λ q. last_of q (items_of p)) (sym m) in
    let one : items (take (at + 1) ps) ≡ items (take at ps) ++ items_of p =
    ap items (take_more ps at p l) ∙ ap (λ q. items (take at ps ++ q ∷ [])) (sym e) ∙ items_more (take at ps) p in
    ap (λ q. all_parts calls g q rest) e_last
    ∙ n rest
    ∙ ap (λ q. all_parts calls f q (items_of p ++ rest)) m
    ∙ h (items_of p ++ rest)
    ∙ ap (all_parts calls first o) (sym (append_assoc (items (take at ps)) (items_of p) rest) ∙ ap (λ xs. xs ++ rest) (sym one))

-- at the end all parts are found
pub found_all : (calls : List OuterCall) (ps : List Piece) (n : ℕ) (o : Option ℕ) (f : PartsSoFar) → length ps ≤ n
    → Continues calls o nothing_found (items (take n ps)) f → Some (mw.Parts f.parts) ≡ group_data calls (parts_from o None (items ps))
unfolding group_data
found_all calls ps n o f l h =
    ap (λ ds. Some (mw.Parts ds))
    (sym (append-nil f.parts)
    ∙ h []
    ∙ ap (λ xs. data_parts calls 0 (parts_from o None xs)) (append-nil (items (take n ps)) ∙ ap items (take_all n ps l)))

pub found_first : (calls : List OuterCall) (ps : List Piece) (o : Option ℕ) (ds : List Datum) → ds ≡ []
    → Continues calls o nothing_found (items (take 0 ps)) (record { parts = ds; number = 0; since = None })
found_first calls ps o ds e rest = ap (λ xs. xs ++ data_parts calls 0 (parts_from o None rest)) e
