-- Calls of the page: what is found of each, and its work.
use Rattle.std.proofs.Common.{◌≡◌, ℕ, ◌+◌, ◌-◌, ◌<◌, Bool, true, false, Option, Some, None, List, [], ◌∷◌, Ok, length, map, take, drop, refl, sym, ap, ◌∙◌, subst, arith, append-nil}
use Rattle.std.specs.Prelude.{◌==◌, ◌||◌, is_some, slice_range, if◌then◌else◌}
use Rattle.wt_span.specs.declared.form.Mode.TheVariants as mode
use Rattle.wt_span.specs.declared.form.ItemForm.TheVariants as form
use Rattle.wt_span.specs.declared.form.Piece.{Piece}
use Rattle.wt_span.specs.declared.text.Text.{Text}
use Rattle.wt_span.specs.Slice.{bytes_of, start_of, end_of}
use Rattle.wt_span.specs.declared.function.Function.{Function}
use Rattle.wt_span.specs.Functions.{function_of}
use Rattle.wt_span.specs.Items.{Item, whole, items}
use Rattle.wt_span.specs.Origins.{OuterCall}
use Rattle.wt_span.specs.Braces.{call, width_of_all, parts_of, PartAt}
use Rattle.wt_names.specs.declared.title.Title.{Title}
use Rattle.wt_braces.specs.PartMembers.{PartMembers, part_members}
use Rattle.wt_braces.specs.Views.{part_of}
use Rattle.wt_expand.specs.Targets.{Called, argument, choice, function, page, called, called_by, called_function, is_function, title_of_target}
use Rattle.wt_expand.specs.Work.{Pages, Entry}
use Rattle.wt_expand.specs.Expansion.{Output, PartOutput, target_part, part_outputs, called_output, output_of, outputs_of}
use Rattle.wt_expand.specs.PageCalls.{Stretch, own, outer, link_of, outer_at, call_stretches, all_stretches}
use Rattle.wt_transclusion.specs.declared.read.Braces.{Braces}
use Rattle.wt_transclusion.specs.declared.refusal.ExpandRefusal.{ExpandRefusal}
use Rattle.wt_transclusion.specs.declared.store.Store.{Store}
use Rattle.wt_transclusion.specs.Steps.{given_from}
use Rattle.wt_transclusion.specs.Stores.{IsStore}
use Rattle.wt_transclusion.proofs.PartLaws.{call_places}
use Rattle.wt_template_stack.specs.declared.reader.Reader.{Reader}
use Rattle.wt_template_stack.specs.Calls.{IsCallOf, source_of, first_end}
use Rattle.wt_template_stack.specs.Ledgers.{Ledger, AnswersOutput, Refuses, ledger}
use Rattle.wt_template_stack.specs.Runs.{page_called}
use Rattle.wt_template_stack.specs.Readers.{CanBeCut}
use Rattle.wt_template_stack.proofs.Cuts.{call_cut, cut_there}
use Rattle.wt_template_stack.proofs.LedgerLaws.{comes_none}
use Rattle.wt_expansion.specs.declared.found.Collected.{Collected}
use Rattle.wt_expansion.specs.Calls.{outer_of}
use Rattle.wt_expansion.specs.Walks.{at_page, Adds, Works, Walked, IsCallNext, call_stretches_at, call_work, is_by_source, page_stretch, page_work_at}
use Rattle.wt_expansion.proofs.FunctionSigns.{named_is_function}
use Rattle.wt_expansion.proofs.WalkLaws.{alike_same}

-- ---- what a call is

if_true : {A : Type 0} → (b : Bool) (x y : A) → b ≡ true → (if b then x else y) ≡ x
if_true b x y e = ap (λ t. if t then x else y) e

if_false : {A : Type 0} → (b : Bool) (x y : A) → b ≡ false → (if b then x else y) ≡ y
if_false b x y e = ap (λ t. if t then x else y) e

called_argument : (k : ℕ) (source : List ℕ) (target : List Item) → (k == 3) ≡ true → called k source target ≡ argument
unfolding called
called_argument k source target e = if_true (k == 3) argument _ e

-- a function, by the word of its target
called_named : (k : ℕ) (source : List ℕ) (target : List Item) → (k == 3) ≡ false → is_function source ≡ true
    → called k source target ≡ called_function (function_of (drop 2 source))
unfolding called
called_named k source target e f = if_false (k == 3) argument _ e ∙ if_true (is_function source) (called_function (function_of (drop 2 source))) _ f

called_kept : (k : ℕ) (source : List ℕ) (target : List Item) → (k == 3) ≡ false → is_function source ≡ true
    → is_some (function_of (drop 2 source)) ≡ false → called k source target ≡ function
called_kept k source target e f n = called_named k source target e f ∙ by_name (function_of (drop 2 source)) n
  where
    by_name : (o : Option (Function × ℕ)) → is_some o ≡ false → called_function o ≡ function
    by_name None h = refl
    by_name (Some (c, m)) h = cc

pub called_title : (k : ℕ) (source : List ℕ) (target : List Item) → (k == 3) ≡ false → is_function source ≡ false
    → called k source target ≡ called_by (title_of_target target)
unfolding called
called_title k source target e f = if_false (k == 3) argument _ e
    ∙ if_false (is_function source) (called_function (function_of (drop 2 source))) _ f

-- its parts and its members as they are expanded
abbrev pub call_outs : (pages : Pages) (t : List ℕ) (b : Braces) → IsCallOf mode.Page t b → List Output
call_outs pages t b c = outputs_of (at_page pages) false (drop c.braces (drop c.at t)) c.inside

abbrev pub call_parts_at : (pages : Pages) (t : List ℕ) (b : Braces) → IsCallOf mode.Page t b → List PartOutput
call_parts_at pages t b c = part_outputs (part_members 0 c.inside) (call_outs pages t b c)

-- what the call is
abbrev pub what : (pages : Pages) (t : List ℕ) (b : Braces) → IsCallOf mode.Page t b → Called
what pages t b c = called c.braces (source_of mode.Page t b c) (target_part (call_parts_at pages t b c)).items

-- what is found of it and what it gives, by what it is
abbrev pub stretches_by : (pages : Pages) (t : List ℕ) (b : Braces) → IsCallOf mode.Page t b → Bool → Called → List Stretch
stretches_by pages t b c s d =
    call_stretches d c.at c.braces (source_of mode.Page t b c) c.inside
    (called_output d (at_page pages) s c.braces (source_of mode.Page t b c) (call_parts_at pages t b c) (call_outs pages t b c)).items
    (all_stretches (at_page pages) (c.at + c.braces) false (drop c.braces (drop c.at t)) c.inside)

abbrev pub output_by : (pages : Pages) (t : List ℕ) (b : Braces) → IsCallOf mode.Page t b → Bool → Called → Output
output_by pages t b c s d =
    called_output d (at_page pages) s c.braces (source_of mode.Page t b c) (call_parts_at pages t b c) (call_outs pages t b c)

pub stretches_is : (pages : Pages) (t : List ℕ) (b : Braces) (c : IsCallOf mode.Page t b) (s : Bool) (d : Called) → what pages t b c ≡ d
    → call_stretches_at pages t b c s ≡ stretches_by pages t b c s d
stretches_is pages t b c s d e = ap (λ x. stretches_by pages t b c s x) e

pub output_is : (pages : Pages) (t : List ℕ) (b : Braces) (c : IsCallOf mode.Page t b) (s : Bool) (d : Called) → what pages t b c ≡ d
    → output_of (at_page pages) s (drop c.at t) (call c.braces c.inside) ≡ output_by pages t b c s d
output_is pages t b c s d e = ap (λ x. output_by pages t b c s x) e

-- ---- an outermost call

pub outer_is : (t : List ℕ) (b : Braces) (c : IsCallOf mode.Page t b) (source : Text) (href : Option (List ℕ)) (d : Called) → start_of source ≡ c.at
    → bytes_of source ≡ source_of mode.Page t b c → href ≡ link_of d
    → outer_of source b href ≡ outer_at c.at c.braces (source_of mode.Page t b c) c.inside d
outer_is t b c source href d s_is b_is h_is =
    let src = source_of mode.Page t b c in
    let f : PartAt → ℕ × ℕ = λ p. (p.from, p.to) in
    let g : PartAt → Option ℕ = λ p. p.equals_at in
    let places : map part_of b.parts.now ≡ parts_of (c.at + c.braces) c.inside = c.parts_are ∙ sym (call_places (c.at + c.braces) c.inside) in
    ap (λ n. let o : OuterCall = record {
      start = n;
      source = bytes_of source;
      argument = b.argument;
      parts = map f (map part_of b.parts.now);
      equals = map g
          (map part_of b.parts.now);
      href = href;
    } in o) s_is
    ∙ ap (λ bs. let o : OuterCall = record {
      start = c.at;
      source = bs;
      argument = b.argument;
      parts = map f (map part_of b.parts.now);
      equals = map g
          (map part_of b.parts.now);
      href = href;
    } in o) b_is
    ∙ ap (λ x. let o : OuterCall = record {
      start = c.at;
      source = src;
      argument = x;
      parts = map f (map part_of b.parts.now);
      equals = map g
          (map part_of b.parts.now);
      href = href;
    } in o) c.kind_is
    ∙ ap (λ ps. let o : OuterCall = record { start = c.at; source = src; argument = c.braces == 3; parts = map f ps; equals = map g ps; href = href } in o)
    places
    ∙ ap (λ x. let o : OuterCall = record {
      start = c.at;
      source = src;
      argument = c.braces == 3;
      parts = map f
          (parts_of (c.at + c.braces) c.inside);
      equals = map g (parts_of (c.at + c.braces) c.inside);
      href = x;
    } in o) h_is

pub source_same : (t bs : List ℕ) (b : Braces) (c : IsCallOf mode.Page t b) → bs ≡ t → slice_range bs b.at.start b.at.end ≡ source_of mode.Page t b c
source_same t bs b c same =
    let z : b.at.end - b.at.start ≡ c.braces + width_of_all c.inside + c.braces = let x = c.start_is in let y = c.end_is in omega (arith, x, y) in
    ap (λ xs. slice_range xs b.at.start b.at.end) same
    ∙ ap (λ n. take n (drop b.at.start t)) z ∙ ap (λ n. take (c.braces + width_of_all c.inside + c.braces) (drop n t)) c.start_is

-- one outermost call is found where the source stands
pub outer_found : (t : List ℕ) (b : Braces) (c : IsCallOf mode.Page t b) (source : Text) (href : Option (List ℕ)) (d : Called) (old new : Collected)
    (given xs : List Item)
    → start_of source ≡ b.at.start → end_of source ≡ b.at.end → bytes_of source ≡ source_of mode.Page t b c → href ≡ link_of d → given ≡ xs
    → (0 < length (bytes_of source) → Adds old new (start_of source) (outer (outer_of source b href) given ∷ []) (end_of source))
    → Adds old new c.at (outer (outer_at c.at c.braces (source_of mode.Page t b c) c.inside d) xs ∷ []) b.at.end
outer_found t b c source href d old new given xs s_is e_is b_is h_is g_is a =
    let at = s_is ∙ c.start_is in
    let some : 0 < length (bytes_of source) = let x = c.start_is in let y = c.end_is in let z = c.two in omega (arith, s_is, e_is, x, y, z) in
    subst (λ ys. Adds old new c.at (outer (outer_at c.at c.braces (source_of mode.Page t b c) c.inside d) ys ∷ []) b.at.end) g_is
    (subst (λ o. Adds old new c.at (outer o given ∷ []) b.at.end) (outer_is t b c source href d at b_is h_is)
    (subst (λ n. Adds old new n (outer (outer_of source b href) given ∷ []) b.at.end) at
    (subst (λ n. Adds old new (start_of source) (outer (outer_of source b href) given ∷ []) n) e_is (a some))))

pub walked_by : (pages : Pages) (t : List ℕ) (l : Ledger) (ss ts : List Stretch) (work done : List Entry) (at to : ℕ) (old new : Collected) (store : Store)
    (spent : ℕ) (answered : Option (List (List ℕ))) → ts ≡ ss → done ≡ work → Adds old new at ts to → Works pages t l done store spent answered []
    → Walked pages t l ss work at to old new store spent answered
walked_by pages t l ss ts work done at to old new store spent answered e f a w = record {
  finds = record { done = ts; alike = alike_same ts ss e; adds = a };
  works = subst (λ es. Works pages t l es store spent answered []) f w;
}

works_of : (pages : Pages) (t : List ℕ) (l : Ledger) (o : Output) (store : Store) (spent : ℕ) (answered : Option (List (List ℕ))) (ps : List Piece)
    → AnswersOutput pages t l o store spent answered (Ok ps) → Works pages t l o.work store spent answered []
works_of pages t l o store spent answered ps h = record { met = h.1; stored = h.2; comes = h.3 }

-- ---- an argument, or a function by text

-- a call that has no link, and is found as an outermost one
record IsUnlinked (pages : Pages) (t : List ℕ) (b : Braces) (c : IsCallOf mode.Page t b) (s : Bool) : Type 0 where
  pub kind : Called
  pub is : what pages t b c ≡ kind
  pub link : None ≡ link_of kind
  pub stretches : outer (outer_at c.at c.braces (source_of mode.Page t b c) c.inside kind) (output_by pages t b c s kind).items ∷ []
      ≡ stretches_by pages t b c s kind

unlinked : (pages : Pages) (t : List ℕ) (b : Braces) (c : IsCallOf mode.Page t b) (s : Bool)
    → is_by_source b.argument (source_of mode.Page t b c) ≡ true → IsUnlinked pages t b c s
unlinked pages t b c s h = by_kind b.argument (function_of (drop 2 src)) c.kind_is refl h
  where
    src : List ℕ
    src = source_of mode.Page t b c

    by_kind : (a : Bool) (o : Option (Function × ℕ)) → a ≡ (c.braces == 3) → function_of (drop 2 src) ≡ o → (a || is_some o) ≡ true
        → IsUnlinked pages t b c s
    by_kind true o e f g = record { kind = argument; is = called_argument c.braces src _ (sym e); link = refl; stretches = refl }
    by_kind false None e f g = cc
    by_kind false (Some (d, n)) e f g = record {
      kind = choice d n;
      is = called_named c.braces src _ (sym e) (named_is_function src d n f) ∙ ap called_function f;
      link = refl;
      stretches = refl;
    }

pub unlinked_walked : (pages : Pages) (t : List ℕ) (l : Ledger) (b : Braces) (reader : Reader) (s : Bool) (n : IsCallNext t b reader s) (source : Text)
    (old new : Collected)
    (store : Store) (spent : ℕ) (answered : Option (List (List ℕ))) (ps : List Piece)
    → is_by_source b.argument (slice_range reader.text.text.now b.at.start b.at.end) ≡ true
    → AnswersOutput pages t l (given_from (at_page pages) s t n.is.at (call n.is.braces n.is.inside ∷ [])) store spent answered (Ok ps)
    → start_of source ≡ b.at.start → end_of source ≡ b.at.end → bytes_of source ≡ slice_range reader.text.text.now b.at.start b.at.end
    → (0 < length (bytes_of source) → Adds old new (start_of source) (outer (outer_of source b None) (items ps) ∷ []) (end_of source))
    → Walked pages t l (call_stretches_at pages t b n.is s) (call_work pages t b n.is s) n.is.at b.at.end old new store spent answered
unlinked_walked pages t l b reader s n source old new store spent answered ps is h s_is e_is b_is a =
    let c = n.is in
    let same = source_same t reader.text.text.now b c n.reading.read.text_is in
    let d = unlinked pages t b c s (subst (λ bs. is_by_source b.argument bs ≡ true) same is) in
    let o = output_of (at_page pages) s (drop c.at t) (call c.braces c.inside) in
    let given : items ps ≡ (output_by pages t b c s d.kind).items = h.0 ∙ append-nil o.items
    ∙ ap (λ (x : Output). x.items) (output_is pages t b c s d.kind d.is) in
    let found = outer_found t b c source None d.kind old new (items ps) _ s_is e_is (b_is ∙ same) d.link given a in
    let stretches = d.stretches ∙ sym (stretches_is pages t b c s d.kind d.is) in
    walked_by pages t l (call_stretches_at pages t b c s) _ (call_work pages t b c s)
    (given_from (at_page pages) s t c.at (call c.braces c.inside ∷ [])).work c.at b.at.end old new store spent answered
    stretches (append-nil o.work) found (works_of pages t l _ store spent answered ps h)

pub refused_one : (pages : Pages) (t : List ℕ) (l : Ledger) (b : Braces) (c : IsCallOf mode.Page t b)
    (s : Bool)
    (told : Option (List (List ℕ))) (e : ExpandRefusal)
    → Refuses pages t l (given_from (at_page pages) s t c.at (call c.braces c.inside ∷ [])).work told e
    → Refuses pages t l (call_work pages t b c s) told e
refused_one pages t l b c s told e h = subst (λ es. Refuses pages t l es told e)
    (append-nil (output_of (at_page pages) s (drop c.at t) (call c.braces c.inside)).work) h

-- the source of a call that is next can be cut out of the page
pub source_there : (t : List ℕ) (b : Braces) (reader : Reader) (s : Bool) → IsCallNext t b reader s → CanBeCut reader.text.text.now b.at.start b.at.end
source_there t b reader s n =
    cut_there mode.Page t reader n.is.at s b.at.start b.at.end n.reading (call_cut mode.Page t b n.reading.read.characters n.is)

-- ---- a function that is kept as it stands

pub function_walked : (pages : Pages) (t : List ℕ) (met : List (List ℕ)) (spent : ℕ) (answered : Option (List (List ℕ))) (b : Braces) (reader : Reader)
    (s : Bool)
    (n : IsCallNext t b reader s) (old new : Collected) (store : Store) → b.argument ≡ false
    → is_function (slice_range reader.text.text.now b.at.start b.at.end) ≡ true
    → is_some (function_of (drop 2 (slice_range reader.text.text.now b.at.start b.at.end))) ≡ false → IsStore pages met store
    → Adds old new b.at.start (own (whole form.Function None (slice_range t b.at.start b.at.end) ∷ []) ∷ []) b.at.end
    → Walked pages t (ledger spent met answered) (call_stretches_at pages t b n.is s) (call_work pages t b n.is s) n.is.at b.at.end old new store spent answered
function_walked pages t met spent answered b reader s n old new store is fn other stored a =
    let c = n.is in
    let src = source_of mode.Page t b c in
    let same = source_same t reader.text.text.now b c n.reading.read.text_is in
    let named = sym (ap is_function same) ∙ fn in
    let none = subst (λ bs. is_some (function_of (drop 2 bs)) ≡ false) same other in
    let e : what pages t b c ≡ function = called_kept c.braces src _ (sym c.kind_is ∙ is) named none in
    let found = subst (λ k. Adds old new k (own (whole form.Function None src ∷ []) ∷ []) b.at.end) c.start_is
    (subst (λ bs. Adds old new b.at.start (own (whole form.Function None bs ∷ []) ∷ []) b.at.end) (source_same t t b c refl) a) in
    walked_by pages t (ledger spent met answered) (call_stretches_at pages t b c s) (stretches_by pages t b c s function) (call_work pages t b c s) []
    c.at b.at.end old new store spent answered (sym (stretches_is pages t b c s function e))
    (sym (ap (λ (x : Output). x.work) (output_is pages t b c s function e))) found
    (record { met = met; stored = stored; comes = comes_none pages t (ledger spent met answered) [] })

-- ---- the call of a page

pub page_walked : (pages : Pages) (t : List ℕ) (l : Ledger) (b : Braces) (reader : Reader) (s : Bool) (n : IsCallNext t b reader s) (title : Title)
    (href : List ℕ)
    (source : Text) (old new : Collected) (store : Store) (spent : ℕ) (answered : Option (List (List ℕ))) (ps : List Piece)
    → AnswersOutput pages t l (page_called (at_page pages) t b n.is s title) store spent answered (Ok ps) → Some href ≡ link_of (page title)
    → start_of source ≡ b.at.start → end_of source ≡ b.at.end → bytes_of source ≡ slice_range reader.text.text.now b.at.start b.at.end
    → (0 < length (bytes_of source) → Adds old new (start_of source) (outer (outer_of source b (Some href)) (items ps) ∷ []) (end_of source))
    → Walked pages t l (page_stretch pages t b n.is s title) (page_work_at pages t b n.is s title) n.is.at b.at.end old new store spent answered
page_walked pages t l b reader s n title href source old new store spent answered ps h link s_is e_is b_is a =
    let c = n.is in
    let found = outer_found t b c source (Some href) (page title) old new (items ps) _ s_is e_is (b_is
    ∙ source_same t reader.text.text.now b c n.reading.read.text_is) link h.0 a in
    walked_by pages t l (page_stretch pages t b c s title) (page_stretch pages t b c s title) (page_work_at pages t b c s title)
    (page_work_at pages t b c s title)
    c.at b.at.end old new store spent answered refl refl found (works_of pages t l _ store spent answered ps h)

-- the target ends behind the call's first brace
pub target_first : (t : List ℕ) (b : Braces) (c : IsCallOf mode.Page t b) → c.at < first_end (c.at + c.braces) (part_members 0 c.inside)
target_first t b c = by_parts (part_members 0 c.inside)
  where
    by_parts : (ps : List PartMembers) → c.at < first_end (c.at + c.braces) ps
    by_parts [] = let two = c.two in omega (arith, two)
    by_parts (p ∷ ps) = let two = c.two in omega (arith, two)
