-- The label of a group: its source is UTF-8, its word is one of a group's, and its parts are read as they are written.
use Rattle.std.proofs.Common.{◌≡◌, ℕ, ◌+◌, ◌<◌, ◌≤◌, ◌^◌, Bool, true, false, Option, Some, None, List, [], ◌∷◌, ◌++◌, length, take, drop, IsUtf8, refl, sym, ap, ◌∙◌, subst, cond, arith, inl, inr, append_assoc, append-nil, length-append}
use Rattle.std.specs.Prelude.{slice_get}
use Rattle.std.specs.List.{AllByRecursion}
use Rattle.std.proofs.lemmas.List.{length-take-le, length-drop, take-append-drop, drop-drop}
use Rattle.std.proofs.lemmas.Str.{IsUtf8-nil, IsUtf8-append}
use Rattle.wt_tree.specs.declared.node.Part.{Part as Datum}
use Rattle.wt_tree.specs.declared.node.Part.TheVariants as datum
use Rattle.wt_span.specs.Cuts.{place, source_of_call, text_between}
use Rattle.wt_span.specs.Items.{Item, char, whole, sources, source}
use Rattle.wt_span.specs.Origins.{OuterCall}
use Rattle.wt_schema.specs.Groups.{transclusion, param}
use Rattle.wt_schema.specs.Written.{IsNumber, IsWord, IsGroupLabel}
use Rattle.wt_call_data.specs.CallData.{next_call}
use Rattle.wt_annotated.specs.Annotated.{group_label}
use Rattle.wt_annotated.specs.GroupData.{call_parts, data_parts, group_data, next_number}
use Rattle.wt_annotated.specs.GroupParts.{Part, called, slice_part, parts}
use Rattle.wt_annotated.specs.GroupWord.{transclusion_word, argument_word, part_word, parts_word}
use Rattle.wt_annotated.specs.Numbering.{with_id}
use Rattle.wt_annotated.specs.Seams.{parted, text_from}
use Rattle.wt_annotated.specs.Walked.{longer, slice_since, part_step, parts_from}
use Rattle.wt_annotated.proofs.PartWalks.{parts_are}
use Rattle.wt_annotated.proofs.Seams.{before_call, text_is}
use Rattle.wt_page_round_trip.specs.GroupTexts.{ArePageCalls, AreOwnTexts}
use Rattle.wt_page_round_trip.proofs.GroupJson.{IsTextPart, parts_written}
use Rattle.wt_page_round_trip.proofs.CallParts.{call_text}
use Rattle.wt_page_round_trip.proofs.OwnTexts.{IsCallIfAny, call_there, free_before, own_cut, text_utf8}

-- ---- its word

part_is : (p : Datum) → IsWord (part_word p)
unfolding transclusion_word argument_word transclusion param
part_is (datum.Template target href params i) = inl refl
part_is (datum.Function name target params i) = inl refl
part_is (datum.Param source) = inr refl
part_is (datum.Literal bs) = inl refl

word_is : (ps : List Datum) → IsWord (parts_word ps)
unfolding transclusion_word transclusion
word_is [] = inl refl
word_is (p ∷ ps) = part_is p

-- ---- its parts

abbrev AreTextParts : List Datum → Type 0
AreTextParts ps = AllByRecursion IsTextPart ps

-- what stands since the last call: a text, and then a run of characters
abbrev EndsWith : List ℕ → Option (List ℕ) → Type 0
EndsWith run None = Unit {0}
EndsWith run (Some bs) = (w : List ℕ) × IsUtf8 w × (bs ≡ w ++ run)

abbrev IsTextIfAny : Option (List ℕ) → Type 0
IsTextIfAny None = Unit {0}
IsTextIfAny (Some bs) = IsUtf8 bs

-- a run that is a text ends
ended : (run : List ℕ) (since : Option (List ℕ)) → IsUtf8 run → EndsWith run since → IsTextIfAny since
ended run None u h = tt
ended run (Some bs) u h = subst IsUtf8 (sym h.2) (IsUtf8-append h.0 run h.1 u)

begun : (since : Option (List ℕ)) → IsTextIfAny since → EndsWith [] since
begun None h = tt
begun (Some bs) h = (bs, h, sym (append-nil bs))

longer_run : (run bs : List ℕ) (since : Option (List ℕ)) → EndsWith run since → EndsWith (run ++ bs) (longer since bs)
longer_run run bs None h = tt
longer_run run bs (Some cs) h = (h.0, h.1, ap (λ x. x ++ bs) h.2 ∙ append_assoc h.0 run bs)

longer_text : (bs : List ℕ) (since : Option (List ℕ)) → IsUtf8 bs → IsTextIfAny since → IsTextIfAny (longer since bs)
longer_text bs None u h = tt
longer_text bs (Some cs) u h = IsUtf8-append cs bs h u

slice_texts : (calls : List OuterCall) (i : ℕ) (bs : List ℕ) (ps : List Part) → IsUtf8 bs → AreTextParts (data_parts calls i ps)
    → AreTextParts (data_parts calls i (slice_part bs ++ ps))
slice_texts calls i [] ps u h = h
slice_texts calls i (b ∷ bs) ps u h = (u, h)

since_texts : (calls : List OuterCall) (i : ℕ) (since : Option (List ℕ)) (ps : List Part) → IsTextIfAny since → AreTextParts (data_parts calls i ps)
    → AreTextParts (data_parts calls i (slice_since since ++ ps))
since_texts calls i None ps u h = h
since_texts calls i (Some bs) ps u h = slice_texts calls i bs ps u h

next_most : (b : Bool) (i : ℕ) → cond b i (i + 1) ≤ i + 1
next_most true i = omega arith
next_most false i = omega arith

-- a call that begins, and what comes behind it
call_texts : (calls : List OuterCall) (i n : ℕ) (o : Option OuterCall) (ps : List Part) → IsCallIfAny o → i + (length (source_of_call o) + n) < 2 ^ 32
    → ((j : ℕ) → j + n < 2 ^ 32 → AreTextParts (data_parts calls j ps))
    → AreTextParts (call_parts o i ++ data_parts calls (next_number o i) ps)
call_texts calls i n None ps h l f = f i (omega (arith, l))
call_texts calls i n (Some c) ps h l f =
    let some : 0 < length c.source = h.some in (
      call_text c i h (omega (arith, l, some)),
      f (next_call c i) (omega (arith, l, some, next_most c.argument i)),
    )

-- an item of a call, which begins or goes on
called_texts : (calls : List OuterCall) → ArePageCalls calls → (v : Bool) (k i : ℕ) (bs : List ℕ) (since : Option (List ℕ))
    (rest : Option (List ℕ) → List Part) (n : ℕ) → IsTextIfAny since → i + (length (cond v (source_of_call (slice_get calls k)) []) + n) < 2 ^ 32
    → ((j : ℕ) (s : Option (List ℕ)) → IsTextIfAny s → j + n < 2 ^ 32 → AreTextParts (data_parts calls j (rest s)))
    → AreTextParts (data_parts calls i (part_step v (Some k) bs since rest))
called_texts calls c true k i bs since rest n h l f =
    since_texts calls i since (called k ∷ rest (Some [])) h
    (call_texts calls i n (slice_get calls k) (rest (Some [])) (call_there calls k c) l (λ j m. f j (Some []) IsUtf8-nil m))
called_texts calls c false k i bs since rest n h l f = f i since h (omega (arith, l))

own_texts : (calls : List OuterCall) (o : Option ℕ) (i : ℕ) (bs : List ℕ) (since : Option (List ℕ)) (rest : Option (List ℕ) → List Part)
    → AreTextParts (data_parts calls i (rest (longer since bs))) → AreTextParts (data_parts calls i (part_step (parted o None) None bs since rest))
own_texts calls o i bs since rest h =
    subst (λ (v : Bool). AreTextParts (data_parts calls i (part_step v None bs since rest))) (sym (free_before o)) h

data_texts : (calls : List OuterCall) → ArePageCalls calls → (o : Option ℕ) (since : Option (List ℕ)) (run : List ℕ) (i : ℕ) (xs : List Item)
    → EndsWith run since → AreOwnTexts run xs → i + length (text_from calls o xs) < 2 ^ 32 → AreTextParts (data_parts calls i (parts_from o since xs))
data_texts calls c o since run i [] e t l = tt
data_texts calls c o since run i (char None b ∷ xs) e t l =
    let m : i + length (text_from calls None xs) < 2 ^ 32 = omega (arith, l, length-append (cond (parted o None) (b ∷ []) []) (text_from calls None xs)) in
    own_texts calls o i (b ∷ []) since (λ s. parts_from None s xs)
    (data_texts calls c None (longer since (b ∷ [])) (run ++ b ∷ []) i xs (longer_run run (b ∷ []) since e) t m)
data_texts calls c o since run i (char (Some k) b ∷ xs) e t l =
    let step : List ℕ = cond (parted o (Some k)) (source_of_call (slice_get calls k)) [] in
    called_texts calls c (parted o (Some k)) k i (b ∷ []) since (λ s. parts_from (Some k) s xs) (length (text_from calls (Some k) xs))
    (ended run since t.0 e) (omega (arith, l, length-append step (text_from calls (Some k) xs)))
    (λ j s h m. data_texts calls c (Some k) s [] j xs (begun s h) t.1 m)
data_texts calls c o since run i (whole f None bs ∷ xs) e t l =
    let m : i + length (text_from calls None xs) < 2 ^ 32 = omega (arith, l, length-append (cond (parted o None) bs []) (text_from calls None xs)) in
    own_texts calls o i bs since (λ s. parts_from None s xs)
    (data_texts calls c None (longer since bs) [] i xs (begun (longer since bs) (longer_text bs since t.1 (ended run since t.0 e))) t.2 m)
data_texts calls c o since run i (whole f (Some k) bs ∷ xs) e t l =
    let step : List ℕ = cond (parted o (Some k)) (source_of_call (slice_get calls k)) [] in
    called_texts calls c (parted o (Some k)) k i bs since (λ s. parts_from (Some k) s xs) (length (text_from calls (Some k) xs))
    (ended run since t.0 e) (omega (arith, l, length-append step (text_from calls (Some k) xs)))
    (λ j s h m. data_texts calls c (Some k) s [] j xs (begun s h) t.1 m)

-- ---- the whole label

-- of a group over these items, behind an item of the call `o` and from the byte `at` on, with this number
pub labelled : (calls : List OuterCall) (at id : ℕ) (o : Option ℕ) (xs : List Item) → ArePageCalls calls → AreOwnTexts [] xs → IsNumber true id
    → at + length (text_from calls o xs) < 2 ^ 32
    → IsGroupLabel (with_id id (group_label at (text_from calls o xs) (group_data calls (parts_from o None xs))))
unfolding group_data
labelled calls at id o xs c t n room =
    let ps : List Datum = data_parts calls 0 (parts_from o None xs) in
    record {
      kind = refl;
      number = n;
      places = (omega (arith, room), room, omega arith, omega arith);
      source = record { own = text_utf8 calls c o [] xs t; opening = refl; closing = refl };
      shown = refl;
      attrs = (parts_word ps, refl, word_is ps);
      origin = refl;
      mark = refl;
      mw = parts_written ps (data_texts calls c o None [] 0 xs tt t (omega (arith, room)));
    }

-- of a group of these items, which stand behind the first `n` of all
pub group_labelled : (calls : List OuterCall) (all : List Item) (n id : ℕ) (xs after : List Item) → ArePageCalls calls → drop n all ≡ xs ++ after
    → AreOwnTexts [] xs → IsNumber true id → place calls all n + length (text_between calls all n (length xs)) < 2 ^ 32
    → IsGroupLabel (with_id id (group_label (place calls all n) (text_between calls all n (length xs)) (group_data calls (parts calls all n (length xs)))))
group_labelled calls all n id xs after c e t i room =
    let o : Option ℕ = before_call all n in
    let at : ℕ = place calls all n in
    let same : text_between calls all n (length xs) ≡ text_from calls o xs = text_is calls all n xs after e in
    let fits : at + length (text_from calls o xs) < 2 ^ 32 = subst (λ (bs : List ℕ). at + length bs < 2 ^ 32) same room in
    subst (λ (ps : List Part). IsGroupLabel (with_id id (group_label at (text_between calls all n (length xs)) (group_data calls ps))))
    (sym (parts_are calls all n xs after e))
    (subst (λ (bs : List ℕ). IsGroupLabel (with_id id (group_label at bs (group_data calls (parts_from o None xs))))) (sym same)
    (labelled calls at id o xs c t i fits))

-- of a group without items, as an empty style is
pub empty_labelled : (calls : List OuterCall) (all : List Item) (n id : ℕ) → ArePageCalls calls → IsNumber true id → place calls all n < 2 ^ 32
    → IsGroupLabel (with_id id (group_label (place calls all n) (text_between calls all n 0) (group_data calls (parts calls all n 0))))
empty_labelled calls all n id c i room = group_labelled calls all n id [] (drop n all) c refl IsUtf8-nil i (omega (arith, room))

-- of a group between two cuts of a page whose own characters are texts, where what follows each cut is UTF-8
pub cut_labelled : (calls : List OuterCall) (all : List Item) (n k id : ℕ) → ArePageCalls calls → AreOwnTexts [] all → IsUtf8 (sources (drop n all))
    → IsUtf8 (sources (drop (n + k) all)) → n + k ≤ length all → IsNumber true id → place calls all n + length (text_between calls all n k) < 2 ^ 32
    → IsGroupLabel (with_id id (group_label (place calls all n) (text_between calls all n k) (group_data calls (parts calls all n k))))
cut_labelled calls all n k id c t u v w i room =
    let front : List Item = drop n all in
    let xs : List Item = take k front in
    let after : List Item = drop k front in
    let whole_page : take n all ++ front ≡ all = take-append-drop n all in
    let whole_front : xs ++ after ≡ front = take-append-drop k front in
    let len : length xs ≡ k = length-take-le k front (omega (arith, w, length-drop n all)) in
    let behind : AreOwnTexts [] front = (own_cut [] (take n all) front u (subst (AreOwnTexts []) (sym whole_page) t)).1 in
    let later : IsUtf8 (sources after) = subst (λ (ys : List Item). IsUtf8 (sources ys)) (sym (drop-drop k n all)) v in
    let own : AreOwnTexts [] xs = (own_cut [] xs after later (subst (AreOwnTexts []) (sym whole_front) behind)).0 in
    subst (λ (m : ℕ). IsGroupLabel (with_id id (group_label (place calls all n) (text_between calls all n m) (group_data calls (parts calls all n m))))) len
    (group_labelled calls all n id xs after c (sym whole_front) own i
    (subst (λ (m : ℕ). place calls all n + length (text_between calls all n m) < 2 ^ 32) (sym len) room))
