-- What reading on, a call that begins and a level that ends do to the levels.
use Rattle.std.proofs.Common.{◌≡◌, ◌⊎◌, inl, inr, ℕ, ◌+◌, ◌-◌, ◌<◌, ◌≤◌, Bool, true, false, Option, Some, None, option_map, List, [], ◌∷◌, ◌++◌, length, take, drop, refl, sym, ap, ◌∙◌, subst, arith, append_assoc, append-nil}
use Rattle.std.specs.Prelude.{slice_get, slice_range, ◌==◌, if◌then◌else◌}
use Rattle.std.proofs.lemmas.List.{drop-drop}
use Rattle.std.proofs.lemmas.List.Concat.{flat_map-append}
use Rattle.std.proofs.lemmas.Option.{slice_get-map}
use Rattle.wt_span.specs.declared.form.Mode.{Mode}
use Rattle.wt_span.specs.declared.form.ItemForm.TheVariants as form
use Rattle.wt_span.specs.declared.form.LexKind.{LexKind}
use Rattle.wt_span.specs.declared.form.Piece.{Piece}
use Rattle.wt_span.specs.Items.{Item, whole, sources, items, items_of}
use Rattle.wt_span.specs.Lexemes.{words}
use Rattle.wt_span.specs.Braces.{Member, lexeme, call, members, width_of_all, reduced}
use Rattle.wt_names.specs.declared.title.Title.{Title}
use Rattle.wt_braces.specs.declared.call.PartAt.{PartAt as PartOf}
use Rattle.wt_braces.specs.PartMembers.{PartMembers, joined, rejoined, part_members, width_of}
use Rattle.wt_braces.specs.Views.{part_of}
use Rattle.wt_braces.proofs.Rejoins.{parts_join}
use Rattle.wt_span.specs.declared.function.Function.{Function}
use Rattle.wt_span.specs.Functions.{function_of}
use Rattle.wt_expand.specs.Targets.{argument, choice, function, called, called_by, called_function, is_function, title_of_target}
use Rattle.wt_expand.specs.Work.{Entry, begun, ended}
use Rattle.wt_expand.specs.Expansion.{Output, Reading, PartOutput, just, then_output, lexeme_items, chars, values_from, part_outputs, target_part, later_parts, parts_work, called_output, front_braces, back_braces, outputs_of, text_given, text_members}
use Rattle.wt_expand.specs.Expansion as outputs
use Rattle.wt_transclusion.specs.declared.read.Braces.{Braces}
use Rattle.wt_transclusion.specs.declared.cursor.Next.TheVariants as next
use Rattle.wt_transclusion.specs.Cursors.{starts}
use Rattle.wt_transclusion.specs.Given.{option_items}
use Rattle.wt_transclusion.specs.Parts.{part_given, parts_given, start_after}
use Rattle.wt_transclusion.specs.Steps.{IsStretchOf, AnswersNext, given_from}
use Rattle.wt_transclusion.specs.Stretch.{AllFull}
use Rattle.wt_transclusion.proofs.CursorLaws.{stretch_within, text_len}
use Rattle.wt_transclusion.proofs.PartLaws.{call_parts, outs, outs_append}
use Rattle.wt_transclusion.proofs.StretchCuts.{stretch_back, whole_stretch}
use Rattle.wt_transclusion.proofs.StretchLaws.{full_front, members_listed}
use Rattle.wt_template_stack.specs.declared.level.Level.{Level}
use Rattle.wt_template_stack.specs.declared.level.Task.{Task}
use Rattle.wt_template_stack.specs.declared.level.Task.TheVariants as task
use Rattle.wt_template_stack.specs.declared.reader.Reader.{Reader}
use Rattle.wt_template_stack.specs.declared.run.TextRun.{TextRun}
use Rattle.wt_template_stack.specs.Accounts.{Account, Does, undone}
use Rattle.wt_template_stack.specs.Calls.{IsCallOf, source_of, parts_of_call, outs_of_call, members_behind, first_end, behind_given}
use Rattle.wt_template_stack.specs.Levels.{Resumes, Ends}
use Rattle.wt_template_stack.specs.Measures.{bytes_left}
use Rattle.wt_template_stack.specs.Readers.{CanBeCut, IsReading}
use Rattle.wt_template_stack.specs.Rests.{after_argument, after_target, after_target_by}
use Rattle.wt_template_stack.specs.Stacks.{stack, whole_level, innermost_end, with_given, one_or_none}
use Rattle.wt_template_stack.specs.Runs.{Holds, HasEnded, TakesChunk, BeginsLevel, BeginsCall}
use Rattle.wt_template_stack.proofs.CallLaws.{First, first_of, behind_same, call_is}
use Rattle.wt_template_stack.proofs.Cuts.{before_or_at, call_cut, chunk_cut, cut_there}
use Rattle.wt_template_stack.proofs.LevelLaws.{strip}

abbrev pub out : List Item → List Entry → Output
out xs es = record { items = xs; work = es }

-- ---- the whole text

pub drop_none : {A : Type 0} → (xs : List A) → drop 0 xs ≡ xs
drop_none [] = refl
drop_none (x ∷ xs) = refl

pub whole_resumes : (r : Reading) (t : List ℕ) (spent : ℕ)
    → Resumes r t 0 true (just []) (whole_level (length t) ∷ []) (undone spent (text_given r t))
unfolding text_members
whole_resumes r t spent =
    let xs = reduced (words r.mode t) in
    (xs, whole_stretch r.mode t, (refl, ap (λ bs. outputs.joined (outputs_of r true bs (members xs))) (sym (drop_none t))))

-- ---- a run

-- a stretch of a text of which nothing is read
pub stretch_holds : (r : Reading) (t : List ℕ) (spent : ℕ) (run : TextRun) (p e : ℕ) (s : Bool) (xs : List Member) → IsReading r.mode t run.reader p s → run.mode ≡ r.mode
    → stack run.levels ≡ whole_level e ∷ [] → IsStretchOf r.mode t p e xs → Holds r t run (stack run.levels) (undone spent (given_from r s t p xs))
stretch_holds r t spent run p e s xs reading m levels h = record {
  place = p;
  at_start = s;
  running = record { reading = reading; mode_is = m };
  resumes = subst (λ ls. Resumes r t p s (just []) ls (undone spent (given_from r s t p xs))) (sym levels) (xs, h, (refl, refl));
}

pub holds : (r : Reading) (t : List ℕ) (run : TextRun) (p : ℕ) (s : Bool) (ls : List Level) (total : Account) → IsReading r.mode t run.reader p s
    → run.mode ≡ r.mode
    → (stack run.levels) ≡ ls → Resumes r t p s (just []) ls total → Holds r t run (stack run.levels) total
holds r t run p s ls total a m e h = record {
  place = p;
  at_start = s;
  running = record { reading = a; mode_is = m };
  resumes = subst (λ ks. Resumes r t p s (just []) ks total) (sym e) h;
}

-- a text of which nothing is read
pub text_holds : (r : Reading) (t : List ℕ) (spent : ℕ) (run : TextRun) (n : ℕ) → IsReading r.mode t run.reader 0 true → run.mode ≡ r.mode
    → stack run.levels ≡ whole_level n ∷ []
    → n ≡ length t → Holds r t run (stack run.levels) (undone spent (text_given r t))
text_holds r t spent run n reading m levels is = record {
  place = 0;
  at_start = true;
  running = record { reading = reading; mode_is = m };
  resumes = subst (λ ls. Resumes r t 0 true (just []) ls (undone spent (text_given r t))) (sym (levels ∙ ap (λ e. whole_level e ∷ []) is)) (whole_resumes r t spent);
}

-- ---- lexemes

pub chunk_next : (r : Reading) (t : List ℕ) (run : TextRun) (ls : List Level) (end : ℕ) (kind : LexKind) (to : ℕ) (total : Account)
    → (h : Holds r t run ls total) → innermost_end ls ≡ Some end
    → ((xs : List Member) → IsStretchOf r.mode t h.place end xs → AnswersNext r.mode t h.place end xs (next.Chunk kind to))
    → TakesChunk r t run ls kind to total
chunk_next r t run [] end kind to total h e a = absurd h.resumes
chunk_next r t run (l ∷ ls) end kind to total h e a =
    let same : end ≡ l.end = cc in
    let n = subst (λ q. (xs : List Member) → IsStretchOf r.mode t h.place q xs → AnswersNext r.mode t h.place q xs (next.Chunk kind to)) same a
    h.resumes.0 h.resumes.1 in
    record {
      place = h.place;
      at_start = h.at_start;
      running = h.running;
      before = n.0;
      cut = chunk_cut r.mode t run.reader.text h.place l.end h.resumes.0 kind to h.running.reading.read h.resumes.1 n;
      resumes = (
        n.2.left,
        n.2.stretch,
        subst (λ o. Ends r t l.end l.task ls (then_output (just (items l.out)) o) total) (n.2.gives r h.at_start) h.resumes.2,
      );
    }

-- ---- pieces that a level is given

-- pieces of a level are given together
joined_out : (xs ys zs : List Item) (g : Output) → zs ≡ xs ++ ys → then_output (just xs) (then_output (just ys) g) ≡ then_output (just zs) g
joined_out xs ys zs g e = ap (λ k. out k g.work) (sym (append_assoc xs ys g.items) ∙ ap (λ k. k ++ g.items) (sym e))

pub pieces_given : (r : Reading) (t : List ℕ) (q : ℕ) (s : Bool) (ls : List Level) (total : Account) (xs : List Item) (ps : List Piece)
    → Resumes r t q s (just xs) ls total → items ps ≡ xs → Resumes r t q s (just []) (with_given ps ls) total
pieces_given r t q s [] total xs ps h e = absurd h
pieces_given r t q s (l ∷ ls) total xs ps h e = (
  h.0,
  h.1,
  subst (λ o. Ends r t l.end l.task ls o total)
      (joined_out (items l.out) xs (items (l.out ++ ps)) (given_from r s t q h.0) (flat_map-append items_of l.out ps ∙ ap (λ ys. items l.out ++ ys) e)) h.2,
)

one_given : (o : Option Piece) → items (one_or_none o) ≡ option_items o
one_given None = refl
one_given (Some p) = append-nil (items_of p)

-- ---- a call

given_call : (r : Reading) (s : Bool) (k : ℕ) (source : List ℕ) (ps qs : List PartOutput) (os ns : List Output) → ps ≡ qs → os ≡ ns
    → called_output (called k source (target_part ps).items) r s k source ps os ≡ called_output (called k source (target_part qs).items) r s k source qs ns
given_call r s k source ps qs os ns e f =
    ap (λ xs. called_output (called k source (target_part xs).items) r s k source xs os) e
    ∙ ap (called_output (called k source (target_part qs).items) r s k source qs) f

pub call_next : (r : Reading) (t : List ℕ) (run : TextRun) (ls : List Level) (end : ℕ) (b : Braces) (total : Account)
    → (h : Holds r t run ls total) → innermost_end ls ≡ Some end
    → ((xs : List Member) → IsStretchOf r.mode t h.place end xs → AnswersNext r.mode t h.place end xs (next.Call b))
    → BeginsCall r t run ls b total
call_next r t run [] end b total h e next_is = absurd h.resumes
call_next r t run (l ∷ ls) end b total h e next_is =
    let same : end ≡ l.end = cc in
    let a = subst (λ q. (xs : List Member) → IsStretchOf r.mode t h.place q xs → AnswersNext r.mode t h.place q xs (next.Call b)) same next_is
    h.resumes.0 h.resumes.1 in
    let p = h.place in
    let k = a.0.braces in
    let ms = a.0.inside in
    let ys = a.0.after in
    let w = k + width_of_all ms + k in
    let source = take w (drop p t) in
    let st = subst (IsStretchOf r.mode t p l.end) a.0.is h.resumes.1 in
    let c = call_is r.mode t b p l.end k ms ys a.1 st in
    let q : p + (w + 0) ≡ b.at.end = let z = c.end_is in omega (arith, z) in
    let os = outputs_of r false (drop k (drop p t)) ms in
    let os_is : os ≡ outs_of_call r t b c = ap (λ xs. outputs_of r false xs ms) (drop-drop k p t)
    ∙ ap (outputs_of r false (drop (p + k) t)) (sym (members_listed ms)) in
    let ps_is : part_outputs (part_members 0 ms) os ≡ parts_of_call r t b c = call_parts r t p k ms st.full.0.1 in
    let gives = given_call r h.at_start k source (part_outputs (part_members 0 ms) os) (parts_of_call r t b c) os (outs_of_call r t b c) ps_is os_is in
    let g = called_output (called k source (target_part (parts_of_call r t b c)).items) r h.at_start k source (parts_of_call r t b c) (outs_of_call r t b c) in
    let all : given_from r h.at_start t p h.resumes.0 ≡ then_output g (given_from r (starts t b.at.end) t b.at.end ys) =
    ap (given_from r h.at_start t p) a.0.is ∙ ap outputs.joined (outs_append r h.at_start t p (call k ms ∷ []) ys (st.full.0, tt))
    ∙ ap (λ o. then_output o (given_from r (starts t (p + (w + 0))) t (p + (w + 0)) ys)) gives ∙ ap (λ j. then_output g (given_from r (starts t j) t j ys)) q in
    record {
      at_start = h.at_start;
      call = c;
      running = h.running;
      resumes = (
        ys,
        subst (λ j. IsStretchOf r.mode t j l.end ys) q (stretch_back _ _ p l.end (call k ms ∷ []) ys st),
        subst (λ o. Ends r t l.end l.task ls (then_output (just (items l.out)) o) total) all h.resumes.2,
      );
    }

-- ---- what a call is

if_true : {A : Type 0} → (b : Bool) (x y : A) → b ≡ true → (if b then x else y) ≡ x
if_true b x y e = ap (λ t. if t then x else y) e

if_false : {A : Type 0} → (b : Bool) (x y : A) → b ≡ false → (if b then x else y) ≡ y
if_false b x y e = ap (λ t. if t then x else y) e

called_argument : (k : ℕ) (source : List ℕ) (target : List Item) → (k == 3) ≡ true → called k source target ≡ argument
unfolding called
called_argument k source target e = if_true (k == 3) argument _ e

by_word : (k : ℕ) (source : List ℕ) (target : List Item) (w : Option (Function × ℕ)) → (k == 3) ≡ false → is_function source ≡ true
    → function_of (drop 2 source) ≡ w → called k source target ≡ called_function w
unfolding called
by_word k source target w e f is =
    if_false (k == 3) argument _ e ∙ if_true (is_function source) (called_function (function_of (drop 2 source))) _ f ∙ ap called_function is

pub called_choice : (k : ℕ) (source : List ℕ) (target : List Item) (f : Function) (n : ℕ) → (k == 3) ≡ false → is_function source ≡ true
    → function_of (drop 2 source) ≡ Some (f, n) → called k source target ≡ choice f n
called_choice k source target f n e i w = by_word k source target (Some (f, n)) e i w

called_kept : (k : ℕ) (source : List ℕ) (target : List Item) → (k == 3) ≡ false → is_function source ≡ true → function_of (drop 2 source) ≡ None
    → called k source target ≡ function
called_kept k source target e i w = by_word k source target None e i w

called_title : (k : ℕ) (source : List ℕ) (target : List Item) → (k == 3) ≡ false → is_function source ≡ false
    → called k source target ≡ called_by (title_of_target target)
unfolding called
called_title k source target e f = if_false (k == 3) argument _ e ∙ if_false (is_function source) (called_function (function_of (drop 2 source))) _ f

pub source_is : (m : Mode) (t : List ℕ) (b : Braces) → (c : IsCallOf m t b) → slice_range t b.at.start b.at.end ≡ source_of m t b c
source_is m t b c =
    let z : b.at.end - b.at.start ≡ c.braces + width_of_all c.inside + c.braces = let x = c.start_is in let y = c.end_is in omega (arith, x, y) in
    ap (λ n. take n (drop b.at.start t)) z ∙ ap (λ n. take (c.braces + width_of_all c.inside + c.braces) (drop n t)) c.start_is

pub function_begins : (r : Reading) (t : List ℕ) (run : TextRun) (ls : List Level) (b : Braces) (total : Account) (source : List ℕ)
    → BeginsCall r t run ls b total → b.argument ≡ false → source ≡ slice_range t b.at.start b.at.end → is_function source ≡ true
    → function_of (drop 2 source) ≡ None
    → Resumes r t b.at.end (starts t b.at.end) (just (whole form.Function None source ∷ [])) ls total
function_begins r t run ls b total source h k e f w =
    let c = h.call in
    let same = e ∙ source_is r.mode t b c in
    let ps0 = parts_of_call r t b c in
    let src = source_of r.mode t b c in
    let fn : is_function src ≡ true = ap is_function (sym same) ∙ f in
    let gives = ap (λ d. called_output d r h.at_start c.braces src ps0 (outs_of_call r t b c))
    (called_kept c.braces src (target_part ps0).items (sym c.kind_is ∙ k) fn (ap (λ bs. function_of (drop 2 bs)) (sym same) ∙ w)) in
    subst (λ o. Resumes r t b.at.end (starts t b.at.end) o ls total) (gives ∙ ap (λ bs. just (whole form.Function None bs ∷ [])) (sym same)) h.resumes

pub call_before : (m : Mode) (t : List ℕ) (b : Braces) → (c : IsCallOf m t b) → c.at < b.at.end
call_before m t b c = let z = c.end_is in let two = c.two in omega (arith, z, two)

-- a call stands before the text's end
pub call_some : (m : Mode) (t : List ℕ) (b : Braces) → (c : IsCallOf m t b) → c.at < length t
call_some m t b c = let z = call_before m t b c in let y = c.fits in omega (arith, z, y)

-- ---- the first part of a call

pub first_part : (r : Reading) (t : List ℕ) (b : Braces) (c : IsCallOf r.mode t b) (part : PartOf) → slice_get b.parts.now 0 ≡ Some part
    → First r t b.at.end (c.at + c.braces) false (part_members 0 c.inside) (part_of part)
first_part r t b c part e =
    first_of r t b.at.end (c.at + c.braces) false (part_members 0 c.inside) (part_of part)
    (ap (λ ps. slice_get ps 0) (sym c.parts_are) ∙ slice_get-map part_of b.parts.now 0 ∙ ap (option_map part_of) e) c.parts_stand

pub argument_begins : (r : Reading) (t : List ℕ) (run : TextRun) (ls : List Level) (b : Braces) (total : Account) (part : PartOf)
    → (h : BeginsCall r t run ls b total) → b.argument ≡ true → slice_get b.parts.now 0 ≡ Some part
    → (left : Account) × Does (begun ∷ []) total left
    × ((next : TextRun) → next.reader ≡ run.reader → next.mode ≡ run.mode → stack next.levels ≡ ls
    → BeginsLevel r t next part.at.start false part.at.end (task.Argument b) left)
argument_begins r t run ls b total part h k e =
    let c = h.call in
    let ps = parts_of_call r t b c in
    let src = source_of r.mode t b c in
    let f = first_part r t b c part e in
    let gives = ap (λ d. called_output d r h.at_start c.braces src ps (outs_of_call r t b c))
    (called_argument c.braces src (target_part ps).items (sym c.kind_is ∙ k)) in
    let z = strip r t b.at.end (starts t b.at.end) (begun ∷ []) (after_argument r.frame (later_parts ps) (target_part ps)) ls total
    (subst (λ o. Resumes r t b.at.end (starts t b.at.end) o ls total) gives h.resumes) in (
      z.0,
      z.1,
      λ next rd md lv. record {
        place = c.at;
        at_start = h.at_start;
        running = record { reading = subst (λ x. IsReading r.mode t x c.at h.at_start) (sym rd) h.running.reading; mode_is = md ∙ h.running.mode_is };
        before = let y = f.from_is in let two = c.two in omega (arith, y, two);
        some = call_some r.mode t b c;
        left = f.left;
        stretch = subst (λ q. IsStretchOf r.mode t part.at.start q f.left) (sym f.to_is)
            (subst (λ q. IsStretchOf r.mode t q (first_end (c.at + c.braces) (part_members 0 c.inside)) f.left) (sym f.from_is) f.stretch);
        ends = record {
          call = c;
          end_is = f.to_is;
          gives = subst (λ ks. Resumes r t b.at.end (starts t b.at.end)
              (after_argument r.frame (later_parts ps) (given_from r false t part.at.start f.left)) ks z.0) (sym lv)
              (subst (λ o. Resumes r t b.at.end (starts t b.at.end) (after_argument r.frame (later_parts ps) o) ls z.0)
              (f.gives ∙ ap (λ q. given_from r false t q f.left) (sym f.from_is)) z.2);
        };
      },
    )

-- the work of an argument that is left behind its beginning
pub argument_work_left : (r : Reading) (t : List ℕ) (run : TextRun) (ls : List Level) (b : Braces) (total : Account) → (h : BeginsCall r t run ls b total)
    → b.argument ≡ true
    → (left : Account) × Does (begun ∷ []) total left
argument_work_left r t run ls b total h k =
    let c = h.call in
    let ps = parts_of_call r t b c in
    let src = source_of r.mode t b c in
    let gives = ap (λ d. called_output d r h.at_start c.braces src ps (outs_of_call r t b c))
    (called_argument c.braces src (target_part ps).items (sym c.kind_is ∙ k)) in
    let z = strip r t b.at.end (starts t b.at.end) (begun ∷ []) (after_argument r.frame (later_parts ps) (target_part ps)) ls total
    (subst (λ o. Resumes r t b.at.end (starts t b.at.end) o ls total) gives h.resumes) in
    (z.0, z.1)

-- ---- a call of two braces

pub joined_append : (os ns : List Output) → outputs.joined (os ++ ns) ≡ then_output (outputs.joined os) (outputs.joined ns)
joined_append [] ns = refl
joined_append (o ∷ os) ns =
    ap (then_output o) (joined_append os ns)
    ∙ ap (λ xs. out xs (o.work ++ ((outputs.joined os).work ++ (outputs.joined ns).work)))
    (sym (append_assoc o.items (outputs.joined os).items (outputs.joined ns).items))
    ∙ ap (out ((o.items ++ (outputs.joined os).items) ++ (outputs.joined ns).items))
    (sym (append_assoc o.work (outputs.joined os).work (outputs.joined ns).work))

pub nothing_behind : (o : Output) → o ≡ then_output o (just [])
nothing_behind o = ap (λ xs. out xs o.work) (sym (append-nil o.items)) ∙ ap (out (o.items ++ [])) (sym (append-nil o.work))

all_of : (r : Reading) (s : Bool) (t : List ℕ) (at : ℕ) (name : Option (List Member × ℕ)) (value : List Member)
    → given_from r s t at (joined name value) ≡ (part_given r s t at name value).all
all_of r s t at None value = refl
all_of r s t at (Some x) value = refl

split_given : (r : Reading) (t : List ℕ) (at : ℕ) (ps : List PartMembers) → AllFull (rejoined ps)
    → given_from r false t at (rejoined ps)
    ≡ then_output (target_part (parts_given r false t at ps)) (given_from r (starts t (first_end at ps)) t (first_end at ps) (members_behind ps))
split_given r t at [] f = refl
split_given r t at (p ∷ []) f = nothing_behind (given_from r false t at (joined p.name p.value))
    ∙ ap (λ o. then_output o (just [])) (all_of r false t at p.name p.value)
split_given r t at (p ∷ q ∷ ps) f =
    let xs = joined p.name p.value in
    let ys = members_behind (p ∷ q ∷ ps) in
    let e = at + width_of xs in
    ap outputs.joined (outs_append r false t at xs ys (full_front xs ys f)) ∙ joined_append (outs r false t at xs) (outs r (start_after false t at xs) t e ys)
    ∙ ap (λ o. then_output o (given_from r (start_after false t at xs) t e ys)) (all_of r false t at p.name p.value)
    ∙ ap (then_output (part_given r false t at p.name p.value).all) (behind_same r t (start_after false t at xs) (starts t e) e (p ∷ q ∷ ps))

outs_split : (r : Reading) (t : List ℕ) (b : Braces) → (c : IsCallOf r.mode t b)
    → outputs.joined (outs_of_call r t b c) ≡ then_output (target_part (parts_of_call r t b c)) (behind_given r t b c)
outs_split r t b c =
    let ps = part_members 0 c.inside in
    let same = parts_join 0 c.inside in
    ap (given_from r false t (c.at + c.braces)) (sym same) ∙ split_given r t (c.at + c.braces) ps (subst AllFull (sym same) c.stretch.full)

target_by : (o : Option Title) (r : Reading) (s : Bool) (k : ℕ) (source : List ℕ) (ps : List PartOutput) (os : List Output) (behind : Output)
    → outputs.joined os ≡ then_output (target_part ps) behind
    → called_output (called_by o) r s k source ps os ≡ after_target_by o r s k source (later_parts ps) behind (target_part ps)
target_by None r s k source ps os behind e =
    let a = chars (front_braces k source) in
    let z = chars (back_braces k source) in
    let x = target_part ps in
    ap (λ o. then_output (just a) (then_output o (just z))) e
    ∙ ap (λ xs. out (a ++ xs) ((x.work ++ behind.work) ++ [])) (append_assoc x.items behind.items z)
    ∙ ap (out (a ++ (x.items ++ (behind.items ++ z)))) (append_assoc x.work behind.work [])
target_by (Some t) r s k source ps os behind e =
    let later = later_parts ps in
    let o = r.template t (values_from 1 later) in
    let xs = outputs.with_break s o.items in
    let x = target_part ps in
    let z = ended (length (sources xs)) ∷ [] in
    ap (λ es. out xs (x.work ++ begun ∷ es)) (append_assoc (parts_work later) o.work z)
    ∙ ap (out xs) (sym (append_assoc x.work (begun ∷ []) (parts_work later ++ (o.work ++ z))))

pub target_begins : (r : Reading) (t : List ℕ) (run next : TextRun) (ls : List Level) (b : Braces) (total : Account) (part : PartOf)
    → (h : BeginsCall r t run ls b total)
    → b.argument ≡ false → is_function (slice_range t b.at.start b.at.end) ≡ false → slice_get b.parts.now 0 ≡ Some part
    → next.reader ≡ run.reader → next.mode ≡ run.mode → stack next.levels ≡ ls
    → BeginsLevel r t next part.at.start false part.at.end (task.Target b h.at_start) total
target_begins r t run next ls b total part h k nf e rd md lv =
    let c = h.call in
    let ps = parts_of_call r t b c in
    let src = source_of r.mode t b c in
    let f = first_part r t b c part e in
    let later = later_parts ps in
    let behind = behind_given r t b c in
    let nfs : is_function src ≡ false = ap is_function (sym (source_is r.mode t b c)) ∙ nf in
    let gives =
    ap (λ d. called_output d r h.at_start c.braces src ps (outs_of_call r t b c)) (called_title c.braces src (target_part ps).items (sym c.kind_is ∙ k) nfs)
    ∙ target_by (title_of_target (target_part ps).items) r h.at_start c.braces src ps (outs_of_call r t b c) behind (outs_split r t b c) in
    let back = subst (λ o. Resumes r t b.at.end (starts t b.at.end) o ls total) gives h.resumes in
    record {
      place = c.at;
      at_start = h.at_start;
      running = record { reading = subst (λ x. IsReading r.mode t x c.at h.at_start) (sym rd) h.running.reading; mode_is = md ∙ h.running.mode_is };
      before = let y = f.from_is in let two = c.two in omega (arith, y, two);
      some = call_some r.mode t b c;
      left = f.left;
      stretch = subst (λ q. IsStretchOf r.mode t part.at.start q f.left) (sym f.to_is)
          (subst (λ q. IsStretchOf r.mode t q (first_end (c.at + c.braces) (part_members 0 c.inside)) f.left) (sym f.from_is) f.stretch);
      ends = record {
        call = c;
        end_is = f.to_is;
        gives = subst (λ ks. Resumes r t b.at.end (starts t b.at.end)
            (after_target r h.at_start c.braces src later behind (given_from r false t part.at.start f.left)) ks total) (sym lv)
            (subst (λ o. Resumes r t b.at.end (starts t b.at.end) (after_target r h.at_start c.braces src later behind o) ls total)
            (f.gives ∙ ap (λ q. given_from r false t q f.left) (sym f.from_is)) back);
      };
    }

-- ---- a level begins

pub level_begins : (r : Reading) (t : List ℕ) (run : TextRun) (at : ℕ) (s : Bool) (to : ℕ) (k : Task) (total : Account)
    → (b : BeginsLevel r t run at s to k total)
    → Resumes r t at s (just []) (record { end = to; out = []; task = k } ∷ (stack run.levels)) total
level_begins r t run at s to k total b = (b.left, b.stretch, b.ends)

-- ---- a level ends

nothing_left : (xs : List Member) → AllFull xs → width_of xs ≡ 0 → xs ≡ []
nothing_left [] f e = refl
nothing_left (lexeme (kind, n) ∷ xs) f e = absurd (let z = f.0 in omega (arith, z, e))
nothing_left (call k ms ∷ xs) f e = absurd (let z = f.0.0 in omega (arith, z, e))

pub level_ends : (r : Reading) (t : List ℕ) (run : TextRun) (l : Level) (total : Account) → (h : Holds r t run (l ∷ (stack run.levels)) total) → l.end ≤ h.place
    → HasEnded r t run l.task l.out total
level_ends r t run l total h low =
    let w = h.resumes.1.width in
    let none = nothing_left h.resumes.0 h.resumes.1.full (omega (arith, w, low)) in
    let here : l.end ≡ h.place = omega (arith, w, low) in
    record {
      place = h.place;
      at_start = h.at_start;
      running = h.running;
      ends = subst (λ e. Ends r t e l.task (stack run.levels) (just (items l.out)) total) here
          (subst (λ o. Ends r t l.end l.task (stack run.levels) o total)
          (ap (λ xs. then_output (just (items l.out)) (given_from r h.at_start t h.place xs)) none
          ∙ ap (λ xs. just xs) (append-nil (items l.out))) h.resumes.2);
    }

-- ---- what the code knows

-- the source of a call that is next can be cut out of the text
pub source_cut : (r : Reading) (t : List ℕ) (run : TextRun) (ls : List Level) (b : Braces) (total : Account) → BeginsCall r t run ls b total
    → CanBeCut run.reader.text.text.now b.at.start b.at.end
source_cut r t run ls b total h =
    cut_there r.mode t run.reader h.call.at h.at_start b.at.start b.at.end h.running.reading
    (call_cut r.mode t b h.running.reading.read.characters h.call)

pub chunk_read : (r : Reading) (t : List ℕ) (run : TextRun) (ls : List Level) (kind : LexKind) (to : ℕ) (total : Account) (o : Option Piece)
    (bytes : List ℕ)
    → TakesChunk r t run ls kind to total → option_items o ≡ lexeme_items run.mode kind bytes
    → bytes ≡ slice_range run.reader.text.text.now run.reader.cursor.at to
    → Resumes r t to (starts t to) (just []) (with_given (one_or_none o) ls) total
chunk_read r t run ls kind to total o bytes h is bytes_are =
    let reading = h.running.reading in
    pieces_given r t to (starts t to) ls total (lexeme_items r.mode kind (take (to - h.place) (drop h.place t))) (one_or_none o) h.resumes
    (one_given o ∙ is ∙ ap (λ m. lexeme_items m kind bytes) h.running.mode_is
    ∙ ap (lexeme_items r.mode kind) (bytes_are ∙ ap (λ xs. slice_range xs run.reader.cursor.at to) reading.read.text_is
    ∙ ap (λ q. take (to - q) (drop q t)) reading.at.at_is))

-- with the innermost level taken
pub popped : (r : Reading) (t : List ℕ) (run next : TextRun) (ls : List Level) (total : Account) → Holds r t run (stack run.levels) total
    → next.reader ≡ run.reader
    → next.mode ≡ run.mode → stack run.levels ≡ ls → Holds r t next ls total
popped r t run next ls total h rd md e = record {
  place = h.place;
  at_start = h.at_start;
  running = record { reading = subst (λ x. IsReading r.mode t x h.place h.at_start) (sym rd) h.running.reading; mode_is = md ∙ h.running.mode_is };
  resumes = subst (λ ks. Resumes r t h.place h.at_start (just []) ks total) e h.resumes;
}

-- where no bytes are left a stretch is read to its end
pub stretch_read : (m : Mode) (t : List ℕ) (reader : Reader) (p : ℕ) (s : Bool) (end : ℕ) (xs : List Member) → IsReading m t reader p s
    → IsStretchOf m t p end xs → (reader.cursor.at < end → bytes_left reader ≡ 0) → end ≤ reader.cursor.at
stretch_read m t reader p s end xs reading st gone = by_order (before_or_at reader.cursor.at end)
  where
    by_order : (reader.cursor.at < end) ⊎ (end ≤ reader.cursor.at) → end ≤ reader.cursor.at
    by_order (inr late) = late
    by_order (inl low) =
        let here = reading.at.at_is in
        let inside = stretch_within _ _ p end xs st (omega (arith, here, low)) in
        let len = text_len m t in
        let long = ap length reading.read.text_is in
        let none = gone low in
        absurd (omega (arith, none, inside, len, long, low))

pub at_end : (r : Reading) (t : List ℕ) (run : TextRun) (end : ℕ) (total : Account) → Holds r t run (stack run.levels) total
    → innermost_end (stack run.levels) ≡ Some end → (run.reader.cursor.at < end → bytes_left run.reader ≡ 0) → end ≤ run.reader.cursor.at
at_end r t run end total h e gone = by_levels (stack run.levels) h.resumes e
  where
    by_levels : (ls : List Level) → Resumes r t h.place h.at_start (just []) ls total → innermost_end ls ≡ Some end → end ≤ run.reader.cursor.at
    by_levels [] resumes is = absurd resumes
    by_levels (l ∷ ls) resumes is =
        let same : l.end ≡ end = (let z : Some l.end ≡ Some end = is in cc) in
        stretch_read r.mode t run.reader h.place h.at_start end resumes.0 h.running.reading
        (subst (λ q. IsStretchOf r.mode t h.place q resumes.0) same resumes.1) gone

-- the innermost level is read to its end and taken
pub read_to_end : (r : Reading) (t : List ℕ) (run next : TextRun) (l : Level) (end : ℕ) (total : Account) → Holds r t run (stack run.levels) total
    → innermost_end (stack run.levels) ≡ Some end → end ≤ run.reader.cursor.at → stack run.levels ≡ l ∷ stack next.levels
    → next.reader ≡ run.reader → next.mode ≡ run.mode → HasEnded r t next l.task l.out total
read_to_end r t run next l end total h e low is rd md =
    let ends : Some l.end ≡ Some end = sym (ap innermost_end is) ∙ e in
    let same : l.end ≡ end = cc in
    let q = popped r t run next (l ∷ stack next.levels) total h rd md is in
    let here : next.reader.cursor.at ≡ run.reader.cursor.at = ap (λ x. x.cursor.at) rd in
    level_ends r t next l total q (let z = q.running.reading.at.at_is in omega (arith, z, here, low, same))

-- what the first level gives, which is the text itself, is all that is left of it
ends_alone : (r : Reading) (t : List ℕ) (e : ℕ) (k : Task) (o : Output) (total : Account) → Ends r t e k [] o total → total.left ≡ o
ends_alone r t e task.Whole o total h = h.1
ends_alone r t e (task.Argument b) o total h = absurd h.gives
ends_alone r t e (task.Default b) o total h = absurd h.1
ends_alone r t e (task.Target b s) o total h = absurd h.gives
ends_alone r t e (task.First c n) o total h = absurd h.1.gives
ends_alone r t e (task.Told c) o total h = absurd h.gives
ends_alone r t e (task.Given b s) o total h = absurd h.1
ends_alone r t e (task.Name a to) o total h = absurd h.gives
ends_alone r t e (task.Value a name) o total h = absurd h.gives
ends_alone r t e (task.Text b) o total h = absurd h.gives

-- the text is read to its end
pub text_ends : (r : Reading) (t : List ℕ) (run : TextRun) (l : Level) (end : ℕ) (total : Account) → Holds r t run (stack run.levels) total
    → stack run.levels ≡ l ∷ [] → innermost_end (stack run.levels) ≡ Some end → end ≤ run.reader.cursor.at → total.left ≡ just (items l.out)
text_ends r t run l end total h is e low =
    let ends : Some l.end ≡ Some end = sym (ap innermost_end is) ∙ e in
    let same : l.end ≡ end = cc in
    let z = h.running.reading.at.at_is in
    let q = subst (λ ks. Resumes r t h.place h.at_start (just []) ks total) is h.resumes in
    let w = q.1.width in
    let none = nothing_left q.0 q.1.full (omega (arith, w, z, low, same)) in
    ends_alone r t l.end l.task (just (items l.out)) total
    (subst (λ o. Ends r t l.end l.task [] o total)
    (ap (λ xs. then_output (just (items l.out)) (given_from r h.at_start t h.place xs)) none
    ∙ ap (λ xs. just xs) (append-nil (items l.out))) q.2)
