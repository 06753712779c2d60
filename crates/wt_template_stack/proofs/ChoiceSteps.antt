-- What is done where a function by text begins, where a part of it is told, and where it has given one.
use Rattle.std.proofs.Common.{◌≡◌, ℕ, zero, suc, ◌+◌, ◌<◌, ◌≤◌, Bool, true, false, Some, None, List, [], ◌∷◌, ◌++◌, ◌-◌, length, take, drop, refl, sym, ap, ◌∙◌, subst, arith, append-nil}
use Rattle.std.specs.Prelude.{◌^◌}
use Rattle.std.specs.Prelude.{Option, is_some, nat_lt, not, slice_get, slice_index, slice_range}
use Rattle.std.proofs.lemmas.Bool.Decides.{nat_tests}
use Rattle.std.proofs.lemmas.List.{drop-drop, get_or-drop, length-append}
use Rattle.wt_span.specs.declared.form.Mode.{Mode}
use Rattle.wt_span.specs.Braces.{width_of_all}
use Rattle.wt_span.specs.declared.function.Function.{Function}
use Rattle.wt_span.specs.declared.form.Piece.{Piece}
use Rattle.wt_span.specs.Functions.{function_of}
use Rattle.wt_span.specs.Items.{Item, items, sources}
use Rattle.wt_braces.specs.declared.call.PartAt.{PartAt as PartOf}
use Rattle.wt_braces.specs.PartMembers.{part_members}
use Rattle.wt_braces.specs.Views.{part_of}
use Rattle.wt_functions.specs.declared.chooser.Ask.TheVariants.{Tell, Give, Nothing}
use Rattle.wt_functions.specs.Choice.{Telling, asked}
use Rattle.wt_functions.proofs.ChoiceLaws.{told_in_order, given_there}
use Rattle.wt_expand.specs.Asking.{have_names, answer_of, next_of, asking}
use Rattle.wt_expand.specs.Texts.{name_text, trimmed_items}
use Rattle.wt_expand.specs.Targets.{is_function}
use Rattle.wt_expand.specs.Work.{Entry, begun, ended}
use Rattle.wt_expand.specs.Expansion.{Output, Reading, PartOutput, just, with_break, target_part, chosen_output, first_given, function_output, called_output}
use Rattle.wt_expand.proofs.Turns.{asks_in_turn}
use Rattle.wt_transclusion.specs.declared.read.Braces.{Braces}
use Rattle.wt_transclusion.specs.Cursors.{starts}
use Rattle.wt_transclusion.specs.Ends.{BeginsAscii}
use Rattle.wt_transclusion.specs.Steps.{IsStretchOf, given_from}
use Rattle.wt_template_stack.specs.declared.choosing.Choosing.{Choosing}
use Rattle.wt_template_stack.specs.declared.level.Level.{Level}
use Rattle.wt_template_stack.specs.declared.level.Task.TheVariants as task
use Rattle.wt_template_stack.specs.declared.reader.Reader.{Reader}
use Rattle.wt_template_stack.specs.declared.run.TextRun.{TextRun}
use Rattle.wt_template_stack.specs.Accounts.{Account, Does, spent_of}
use Rattle.wt_template_stack.specs.Calls.{IsCallOf, source_of, parts_of_call, outs_of_call, first_end}
use Rattle.wt_template_stack.specs.Choosings.{IsStarted, IsToldMore}
use Rattle.wt_template_stack.specs.Levels.{Back, IsToldSince, Resumes, ToldWaits}
use Rattle.wt_template_stack.specs.Readers.{IsReading}
use Rattle.wt_template_stack.specs.Rests.{with_work, ended_with, after_given, behind_word, later_told, after_told}
use Rattle.wt_template_stack.specs.Runs.{HasEnded, GivesAgain, Returns, BeginsLevel, BeginsCall}
use Rattle.wt_template_stack.specs.Stacks.{stack}
use Rattle.wt_template_stack.specs.ToldParts.{name_end, told_end, given_start, with_text}
use Rattle.wt_transclusion.proofs.FunctionWords.{IsPlain, plain_front, no_brace, given_ascii, named_plain}
use Rattle.wt_transclusion.proofs.StretchCuts.{take_behind}
use Rattle.wt_template_stack.proofs.CallLaws.{call_bars, second_of}
use Rattle.wt_template_stack.proofs.CallSteps.{part_get}
use Rattle.wt_template_stack.proofs.FirstAsked.{first_asked}
use Rattle.wt_template_stack.proofs.LevelLaws.{strip}
use Rattle.wt_template_stack.proofs.NumberedParts.{StretchGives, drop_more, part_told, part_of_value, have_names_is}
use Rattle.wt_template_stack.proofs.RestLaws.{given_work}
use Rattle.wt_template_stack.proofs.StepLaws.{call_some, called_choice, drop_none, first_part, source_is}

-- ---- what a function gives, part after part

-- a part that is asked for is told, and then the others
told_next : (s : Bool) (c : Telling) (ps : List PartOutput) (o : Output) (os : List Output) (k : ℕ) → asked c ≡ Tell k
    → drop (length c.texts) (later_told c.function ps) ≡ os
    → after_given s (asking c.function c.equals ps c.texts (o ∷ os)) ≡ after_told s c ps o
told_next s c ps o os k e is =
    let rest = asking c.function c.equals ps (c.texts ++ name_text o.items ∷ []) os in
    ap (λ a. after_given s (next_of a c.function ps o rest)) e ∙ given_work s o.work rest
    ∙ ap (λ xs. with_work o.work (after_given s (asking c.function c.equals ps (c.texts ++ name_text o.items ∷ []) xs))) (sym is)

choice_turns : (f : Function) (n : ℕ) (s : Bool) (ps : List PartOutput) → function_output f n s ps
    ≡ with_work (begun ∷ []) (after_told s (record { function = f; equals = have_names ps; texts = [] }) ps (behind_word n (target_part ps)))
choice_turns f n s ps =
    asks_in_turn f n s ps
    ∙ ap (with_work (begun ∷ [])) (told_next s (record { function = f; equals = have_names ps; texts = [] }) ps (behind_word n (target_part ps))
    (later_told f ps) 0 (first_asked f (have_names ps)) (drop_none (later_told f ps)))

-- where a part is given or none, nothing more is told
given_next : (c : Telling) (ps : List PartOutput) (os : List Output) (k : ℕ) → asked c ≡ Give k
    → asking c.function c.equals ps c.texts os ≡ chosen_output c.function (Some k) ps
given_next c ps [] k e = ap (λ a. answer_of a c.function ps) e
given_next c ps (o ∷ os) k e = ap (λ a. next_of a c.function ps o (asking c.function c.equals ps (c.texts ++ name_text o.items ∷ []) os)) e

nothing_next : (c : Telling) (ps : List PartOutput) (os : List Output) → asked c ≡ Nothing → asking c.function c.equals ps c.texts os ≡ just []
nothing_next c ps [] e = ap (λ a. answer_of a c.function ps) e
nothing_next c ps (o ∷ os) e = ap (λ a. next_of a c.function ps o (asking c.function c.equals ps (c.texts ++ name_text o.items ∷ []) os)) e

-- ---- what waits

-- what `ToldWaits` says, of values that stand by themselves
record Waits (r : Reading) (t : List ℕ) (e : ℕ) (b : Braces) (s : Bool) (f : Function) (told : Telling) (start : Reader) (number spent : ℕ) (total : Account)
    (back : Back) (o : Output) : Type 0 where
  call : IsCallOf r.mode t b
  begun_is : IsReading r.mode t start call.at s
  function_is : told.function ≡ f
  equals_are : told.equals ≡ have_names (parts_of_call r t b call)
  before : (next : PartOf) → slice_get b.parts.now (suc (length told.texts)) ≡ Some next → e < next.at.start
  within : e < b.at.end
  since : 0 < number → IsToldSince total b f number spent (parts_of_call r t b call) o
  gives : back b.at.end (after_told s told (parts_of_call r t b call) o)

waits : (r : Reading) (t : List ℕ) (e : ℕ) (c : Choosing) (total : Account) (back : Back) (o : Output)
    → Waits r t e c.call c.at_start c.function c.chooser c.begun c.number c.spent total back o → ToldWaits r t e c total back o
waits r t e c total back o w = record {
  choosing = record { call = w.call; begun = w.begun_is; function_is = w.function_is; equals_are = w.equals_are };
  before = w.before;
  within = w.within;
  since = w.since;
  gives = w.gives;
}

-- of values that are the same
moved : (r : Reading) (t : List ℕ) (e : ℕ) (b : Braces) (s : Bool) (f : Function) (told : Telling) (start : Reader) (number spent : ℕ) (total : Account)
    (back : Back) (o : Output) (c : Choosing)
    → c.call ≡ b → c.at_start ≡ s → c.function ≡ f → c.chooser ≡ told → c.begun ≡ start → c.number ≡ number → c.spent ≡ spent
    → Waits r t e b s f told start number spent total back o → ToldWaits r t e c total back o
moved r t e b s f told start number spent total back o c p q u v w x y h = waits r t e c total back o
    (subst (λ k. Waits r t e k c.at_start c.function c.chooser c.begun c.number c.spent total back o) (sym p)
    (subst (λ k. Waits r t e b k c.function c.chooser c.begun c.number c.spent total back o) (sym q)
    (subst (λ k. Waits r t e b s k c.chooser c.begun c.number c.spent total back o) (sym u)
    (subst (λ k. Waits r t e b s f k c.begun c.number c.spent total back o) (sym v)
    (subst (λ k. Waits r t e b s f told k c.number c.spent total back o) (sym w)
    (subst (λ k. Waits r t e b s f told start k c.spent total back o) (sym x)
    (subst (λ k. Waits r t e b s f told start number k total back o) (sym y) h)))))))

-- ---- a function begins

choice_is : (r : Reading) (t : List ℕ) (run : TextRun) (ls : List Level) (b : Braces) (total : Account) (source : List ℕ) (f : Function) (n : ℕ)
    → (h : BeginsCall r t run ls b total) → b.argument ≡ false → source ≡ slice_range t b.at.start b.at.end → is_function source ≡ true
    → function_of (drop 2 source) ≡ Some (f, n)
    → Resumes r t b.at.end (starts t b.at.end) (function_output f n h.at_start (parts_of_call r t b h.call)) ls total
choice_is r t run ls b total source f n h k e i w =
    let c = h.call in
    let ps = parts_of_call r t b c in
    let src = source_of r.mode t b c in
    let same = e ∙ source_is r.mode t b c in
    subst (λ d. Resumes r t b.at.end (starts t b.at.end) (called_output d r h.at_start c.braces src ps (outs_of_call r t b c)) ls total)
    (called_choice c.braces src (target_part ps).items f n (sym c.kind_is ∙ k) (ap is_function (sym same) ∙ i) (ap (λ bs. function_of (drop 2 bs)) (sym same) ∙ w))
    h.resumes

abbrev untold : Function → List PartOutput → Telling
untold f ps = record { function = f; equals = have_names ps; texts = [] }

-- the function's work behind its beginning
record Begun (r : Reading) (t : List ℕ) (ls : List Level) (b : Braces) (f : Function) (n : ℕ) (s : Bool) (c : IsCallOf r.mode t b) (total : Account) : Type 0 where
  left : Account
  does : Does (begun ∷ []) total left
  resumes : Resumes r t b.at.end (starts t b.at.end)
      (after_told s (untold f (parts_of_call r t b c)) (parts_of_call r t b c) (behind_word n (target_part (parts_of_call r t b c)))) ls left

choice_begun : (r : Reading) (t : List ℕ) (run : TextRun) (ls : List Level) (b : Braces) (total : Account) (source : List ℕ) (f : Function) (n : ℕ)
    → (h : BeginsCall r t run ls b total) → b.argument ≡ false → source ≡ slice_range t b.at.start b.at.end → is_function source ≡ true
    → function_of (drop 2 source) ≡ Some (f, n) → Begun r t ls b f n h.at_start h.call total
choice_begun r t run ls b total source f n h k e i w =
    let ps = parts_of_call r t b h.call in
    let z = strip r t b.at.end (starts t b.at.end) (begun ∷ []) (after_told h.at_start (untold f ps) ps (behind_word n (target_part ps))) ls total
    (subst (λ o. Resumes r t b.at.end (starts t b.at.end) o ls total) (choice_turns f n h.at_start ps) (choice_is r t run ls b total source f n h k e i w)) in
    record { left = z.0; does = z.1; resumes = z.2 }

-- the work of a function that is left behind its beginning
pub choice_work_left : (r : Reading) (t : List ℕ) (run : TextRun) (ls : List Level) (b : Braces) (total : Account) (source : List ℕ) (f : Function) (n : ℕ)
    → BeginsCall r t run ls b total → b.argument ≡ false → source ≡ slice_range t b.at.start b.at.end → is_function source ≡ true
    → function_of (drop 2 source) ≡ Some (f, n) → (left : Account) × Does (begun ∷ []) total left
choice_work_left r t run ls b total source f n h k e i w =
    let z = choice_begun r t run ls b total source f n h k e i w in (z.left, z.does)

-- the blanks and the word of a function come after two braces, and so begin its target
word_there : (m : Mode) (t : List ℕ) (b : Braces) (c : IsCallOf m t b) (source : List ℕ) (f : Function) (n : ℕ) → b.argument ≡ false
    → source ≡ slice_range t b.at.start b.at.end → function_of (drop 2 source) ≡ Some (f, n) → IsPlain n (drop (c.at + c.braces) t)
word_there m t b c source f n k e w =
    let wide = c.braces + width_of_all c.inside + c.braces in
    let long : 2 + (wide - 2) ≡ wide = (let two = c.two in omega (arith, two)) in
    let front : drop 2 source ≡ take (wide - 2) (drop 2 (drop c.at t)) =
    ap (drop 2) (e ∙ source_is m t b c) ∙ ap (λ i. drop 2 (take i (drop c.at t))) (sym long) ∙ sym (take_behind 2 (wide - 2) (drop c.at t)) in
    let plain : IsPlain n (drop (c.at + 2) t) = subst (IsPlain n) (drop-drop 2 c.at t)
    (plain_front n (wide - 2) (drop 2 (drop c.at t)) (subst (IsPlain n) front (named_plain (drop 2 source) f n w))) in
    by_braces n (nat_lt 2 c.braces) refl plain
  where
    by_braces : (n : ℕ) (more : Bool) → nat_lt 2 c.braces ≡ more → IsPlain n (drop (c.at + 2) t) → IsPlain n (drop (c.at + c.braces) t)
    by_braces zero more is h = tt
    by_braces (suc n) true is h =
        let l : 2 < c.braces = grind (arith, nat_tests) in
        let z : c.at + 2 ≡ c.at + 2 + 0 = omega arith in
        let here : slice_index (drop (c.at + 2) t) 0 ≡ 123 = get_or-drop (c.at + 2) t 0 0 ∙ ap (slice_index t) (sym z) ∙ c.opening 2 l in
        absurd (no_brace n 123 (drop (c.at + 2) t) here refl h)
    by_braces (suc n) false is h =
        let l : c.braces ≤ 2 = grind (arith, nat_tests) in
        let z : c.at + 2 ≡ c.at + c.braces = (let two = c.two in omega (arith, l, two)) in
        subst (λ q. IsPlain (suc n) (drop q t)) z h

-- its target is read
pub choice_begins : (r : Reading) (t : List ℕ) (run : TextRun) (ls : List Level) (b : Braces) (total : Account) (source : List ℕ) (f : Function) (n : ℕ)
    (part : PartOf) → BeginsCall r t run ls b total → b.argument ≡ false → source ≡ slice_range t b.at.start b.at.end → is_function source ≡ true
    → function_of (drop 2 source) ≡ Some (f, n) → slice_get b.parts.now 0 ≡ Some part
    → (left : Account) × Does (begun ∷ []) total left
    × ((next : TextRun) (c : Choosing) → IsStarted c b f run.reader → next.reader ≡ run.reader → next.mode ≡ run.mode → stack next.levels ≡ ls
    → BeginsLevel r t next part.at.start false part.at.end (task.First c n) left)
choice_begins r t run ls b total source f n part h k e i w there =
    let c = h.call in
    let ps = parts_of_call r t b c in
    let z = choice_begun r t run ls b total source f n h k e i w in
    let x = first_part r t b c part there in
    let from = x.from_is in
    let to = x.to_is in
    let low = x.within in
    let target = given_from r false t part.at.start x.left in
    let stretch = subst (λ q. IsStretchOf r.mode t part.at.start q x.left) (sym to)
    (subst (λ q. IsStretchOf r.mode t q (first_end (c.at + c.braces) (part_members 0 c.inside)) x.left) (sym from) x.stretch) in
    let plain = subst (λ q. IsPlain n (drop q t)) (sym from) (word_there r.mode t b c source f n k e w) in
    let target_ascii = given_ascii r t part.at.start part.at.end n false x.left stretch plain in (
      z.left,
      z.does,
      λ next choosing started rd md lv. record {
        place = c.at;
        at_start = h.at_start;
        running = record { reading = subst (λ y. IsReading r.mode t y c.at h.at_start) (sym rd) h.running.reading; mode_is = md ∙ h.running.mode_is };
        before = let two = c.two in omega (arith, from, two);
        some = call_some r.mode t b c;
        left = x.left;
        stretch = stretch;
        ends = (
          target_ascii,
          moved r t part.at.end b h.at_start f (untold f ps) run.reader 0 choosing.spent z.left (λ q y. Resumes r t q (starts t q) y (stack next.levels) z.left)
              (behind_word n target) choosing started.call_is (started.at_start_is ∙ h.running.reading.starts) started.function_is
              (started.chooser_is ∙ ap (λ es. record { function = f; equals = es; texts = [] }) (have_names_is r t b c)) started.begun_is started.number_is refl (record {
                call = c;
                begun_is = h.running.reading;
                function_is = refl;
                equals_are = refl;
                before = λ y g. let q = (second_of r t b.at.end (c.at + c.braces) false (part_members 0 c.inside) (part_of y) (part_get r t b c 1 (Some y) g) c.parts_stand
                    (call_bars r.mode t b c)).behind in
                    omega (arith, to, q);
                within = omega (arith, to, low);
                since = λ y. absurd (omega (arith, y));
                gives = subst (λ ks. Resumes r t b.at.end (starts t b.at.end) (after_told h.at_start (untold f ps) ps (behind_word n target)) ks z.left) (sym lv)
                    (subst (λ o. Resumes r t b.at.end (starts t b.at.end) (after_told h.at_start (untold f ps) ps (behind_word n o)) ls z.left)
                    (x.gives ∙ ap (λ q. given_from r false t q x.left) (sym from)) z.resumes);
              }),
        );
      },
    )

-- ---- a part is told

-- its target is a part without the bytes before part 0
pub first_ends : (r : Reading) (t : List ℕ) (run : TextRun) (c : Choosing) (n : ℕ) (ps qs : List Piece) (total : Account)
    → HasEnded r t run (task.First c n) ps total → (BeginsAscii n (items ps) → items qs ≡ drop n (items ps)) → HasEnded r t run (task.Told c) qs total
first_ends r t run c n ps qs total h e = record {
  place = h.place;
  at_start = h.at_start;
  running = h.running;
  ends = subst (λ xs. ToldWaits r t h.place c total (λ q x. Resumes r t q (starts t q) x (stack run.levels) total) (just xs)) (sym (e h.ends.0)) h.ends.1;
}

-- the text of the next part
after_more : (texts : List (List ℕ)) (text : List ℕ) → length (texts ++ text ∷ []) ≡ suc (length texts)
after_more texts text = let z = length-append texts (text ∷ []) in omega (arith, z)

-- nothing is done of the next part
told_since : (r : Reading) (t : List ℕ) (b : Braces) (call : IsCallOf r.mode t b) (f : Function) (k n spent : ℕ) (total : Account) (part : PartOf) (o : Output)
    → spent ≡ spent_of total → slice_get b.parts.now k ≡ Some part → k ≡ suc n
    → (name_end f part.equals ≡ None → chosen_output f (Some k) (parts_of_call r t b call) ≡ o)
    → IsToldSince total b f k spent (parts_of_call r t b call) o
told_since r t b call f k n spent total part o costs there k_is whole = record {
  done = [];
  last = record { earlier = total.done; done_is = sym (append-nil total.done); spent_is = costs };
  gives = λ other numbered no_name.
      let same : other ≡ part = (let z : Some other ≡ Some part = sym numbered ∙ there in cc) in
      whole (ap (λ (p : PartOf). name_end f p.equals) (sym same) ∙ no_name);
}

-- the next part is told
pub told_begins : (r : Reading) (t : List ℕ) (run : TextRun) (c next : Choosing) (ps : List Piece) (text : List ℕ) (k : ℕ) (part : PartOf) (end : ℕ)
    (spent : ℕ) (total : Account) → spent ≡ spent_of total → HasEnded r t run (task.Told c) ps total → text ≡ name_text (items ps) → IsToldMore c text k spent next → asked next.chooser ≡ Tell k
    → slice_get c.call.parts.now k ≡ Some part → end ≡ told_end c.function part
    → BeginsLevel r t run part.at.start (starts t part.at.start) end (task.Told next) total
told_begins r t run c next ps text k part end spent total costs h is more e there end_is =
    let b = c.call in
    let w = h.ends in
    let call = w.choosing.call in
    let outs = parts_of_call r t b call in
    let n = length c.chooser.texts in
    let after = with_text c.chooser text in
    let asks : asked after ≡ Tell k = ap asked (sym more.chooser_is) ∙ e in
    let long = after_more c.chooser.texts text in
    let k_is : k ≡ suc n = (told_in_order after k asks).0 ∙ long in
    let f = c.chooser.function in
    let es = c.chooser.equals in
    let numbered : slice_get b.parts.now (suc n) ≡ Some part = ap (slice_get b.parts.now) (sym k_is) ∙ there in
    let ends : end ≡ told_end f part = end_is ∙ ap (λ g. told_end g part) (sym w.choosing.function_is) in
    let x = part_told f r t b call n part numbered in
    let s = c.at_start in
    let to = b.at.end in
    let later = later_told f outs in
    let low = w.before part numbered in
    let most = x.within in
    let left = subst (λ q. StretchGives r t part.at.start q x.output) (sym ends) x.stretch in
    let turn : after_told s c.chooser outs (just (items ps)) ≡ after_told s after outs x.output =
    ap (λ y. after_given s (asking f es outs (c.chooser.texts ++ y ∷ []) (drop n later))) (sym is)
    ∙ ap (λ os. after_given s (asking f es outs after.texts os)) x.outputs_are
    ∙ told_next s after outs x.output x.others k asks (ap (λ m. drop m later) long ∙ drop_more n later x.output x.others x.outputs_are) in
    record {
      place = h.place;
      at_start = h.at_start;
      running = h.running;
      before = low;
      some = let z = w.within in let fits = call.fits in omega (arith, z, fits);
      left = left.left;
      stretch = left.stretch;
      ends = moved r t end b s c.function after c.begun k spent total (λ q y. Resumes r t q (starts t q) y (stack run.levels) total)
          (given_from r (starts t part.at.start) t part.at.start left.left) next more.call_is more.at_start_is more.function_is more.chooser_is more.begun_is more.number_is more.spent_is (record {
            call = call;
            begun_is = w.choosing.begun;
            function_is = w.choosing.function_is;
            equals_are = w.choosing.equals_are;
            before = λ y g. let q = x.next y (ap (λ m. slice_get b.parts.now (suc m)) (sym long) ∙ g) in omega (arith, q, ends);
            within = omega (arith, most, ends);
            since = λ y. told_since r t b call c.function k n spent total part (given_from r (starts t part.at.start) t part.at.start left.left) costs there k_is
                (λ no_name. ap (λ g. chosen_output g (Some k) outs) (sym w.choosing.function_is) ∙ ap (λ m. first_given f (drop m outs)) k_is
                ∙ x.whole (ap (λ g. name_end g part.equals) w.choosing.function_is ∙ no_name) ∙ left.gives);
            gives = subst (λ o. Resumes r t to (starts t to) (after_told s after outs o) (stack run.levels) total) left.gives
                (subst (λ o. Resumes r t to (starts t to) o (stack run.levels) total) turn w.gives);
          });
    }

-- ---- a part is given, or none

-- what is left of a function to which nothing more is told
turned : (c : Telling) (s : Bool) (outs : List PartOutput) (ps : List Piece) (text : List ℕ) (o : Output) → text ≡ name_text (items ps)
    → ((os : List Output) → asking c.function c.equals outs (with_text c text).texts os ≡ o) → after_told s c outs (just (items ps)) ≡ after_given s o
turned c s outs ps text o is more =
    let os = drop (length c.texts) (later_told c.function outs) in
    ap (λ y. after_given s (asking c.function c.equals outs (c.texts ++ y ∷ []) os)) (sym is) ∙ ap (after_given s) (more os)

-- the part that is chosen is read, from where the call begins
pub given_begins : (r : Reading) (t : List ℕ) (run next : TextRun) (c : Choosing) (ps : List Piece) (text : List ℕ) (k : ℕ) (part : PartOf) (start : ℕ)
    (total : Account) → HasEnded r t run (task.Told c) ps total → text ≡ name_text (items ps) → asked (with_text c.chooser text) ≡ Give k
    → slice_get c.call.parts.now k ≡ Some part → part.at.end < 2 ^ 32
    → (given_start c.function part < 2 ^ 32 → start ≡ given_start c.function part) → next.reader ≡ c.begun → next.mode ≡ run.mode → stack next.levels ≡ stack run.levels
    → BeginsLevel r t next start (starts t start) part.at.end (task.Given c.call c.at_start) total
given_begins r t run next c ps text k part start total h is e there few start_is rd md lv = by_number k e there
  where
    by_number : (n : ℕ) → asked (with_text c.chooser text) ≡ Give n → slice_get c.call.parts.now n ≡ Some part
        → BeginsLevel r t next start (starts t start) part.at.end (task.Given c.call c.at_start) total
    by_number zero asks numbered = absurd (let z = (given_there (with_text c.chooser text) zero asks).0 in omega (arith, z))
    by_number (suc n) asks numbered =
        let b = c.call in
        let w = h.ends in
        let call = w.choosing.call in
        let outs = parts_of_call r t b call in
        let f = c.chooser.function in
        let x = part_of_value f r t b call n part numbered in
        let wide = x.stretch.stretch.width in
        let fits : given_start f part < 2 ^ 32 = omega (arith, wide, few) in
        let begins : start ≡ given_start f part = subst (λ g. given_start g part < 2 ^ 32 → start ≡ given_start g part) (sym w.choosing.function_is) start_is fits in
        let low = x.behind in
        let most = x.within in
        let s = c.at_start in
        let to = b.at.end in
        let left = subst (λ q. StretchGives r t q part.at.end x.output) (sym begins) x.stretch in
        let turn : after_told s c.chooser outs (just (items ps)) ≡ after_given s (given_from r (starts t start) t start left.left) =
        turned c.chooser s outs ps text (given_from r (starts t start) t start left.left) is
        (λ os. given_next (with_text c.chooser text) outs os (suc n) asks ∙ x.output_is ∙ left.gives) in
        record {
          place = call.at;
          at_start = s;
          running = record { reading = subst (λ y. IsReading r.mode t y call.at s) (sym rd) w.choosing.begun; mode_is = md ∙ h.running.mode_is };
          before = omega (arith, low, begins);
          some = call_some r.mode t b call;
          left = left.left;
          stretch = left.stretch;
          ends = (
            most,
            subst (λ ks. Resumes r t to (starts t to) (after_given s (given_from r (starts t start) t start left.left)) ks total) (sym lv)
                (subst (λ o. Resumes r t to (starts t to) o (stack run.levels) total) turn w.gives),
          );
        }

pub none_of : {A : Type 0} → (o : Option A) → not (is_some o) ≡ true → o ≡ None
none_of None e = refl
none_of (Some x) e = cc

-- a part that was told whole is given again
pub given_again : (r : Reading) (t : List ℕ) (run : TextRun) (c : Choosing) (ps : List Piece) (text : List ℕ) (k : ℕ) (part : PartOf) (total : Account)
    → HasEnded r t run (task.Told c) ps total → text ≡ name_text (items ps) → asked (with_text c.chooser text) ≡ Give k
    → slice_get c.call.parts.now k ≡ Some part → k ≡ c.number → name_end c.function part.equals ≡ None
    → GivesAgain r t run c.call c.at_start c.spent ps total
given_again r t run c ps text k part total h is e there same no_name =
    let w = h.ends in
    let b = c.call in
    let to = b.at.end in
    let outs = parts_of_call r t b w.choosing.call in
    let some = (given_there (with_text c.chooser text) k e).0 in
    let since = w.since (omega (arith, some, same)) in
    let o = with_work since.done (just (items ps)) in
    let turn : after_told c.at_start c.chooser outs (just (items ps)) ≡ after_given c.at_start o =
    turned c.chooser c.at_start outs ps text o is
    (λ os. given_next (with_text c.chooser text) outs os k e ∙ ap (λ g. chosen_output g (Some k) outs) w.choosing.function_is
    ∙ ap (λ m. chosen_output c.function (Some m) outs) same
    ∙ since.gives part (ap (slice_get b.parts.now) (sym same) ∙ there) no_name) in
    record {
      place = h.place;
      at_start = h.at_start;
      running = h.running;
      before = w.within;
      done = since.done;
      last = since.last;
      resumes = subst (λ y. Resumes r t to (starts t to) y (stack run.levels) total) turn w.gives;
    }

-- its work is taken from the front
pub record Again (r : Reading) (t : List ℕ) (run : TextRun) (b : Braces) (s : Bool) (work : List Entry) (ps : List Piece) (total : Account) : Type 0 where
  pub left : Account
  pub does : Does work total left
  pub ended : HasEnded r t run (task.Given b s) ps left

pub done_again : (r : Reading) (t : List ℕ) (run : TextRun) (b : Braces) (s : Bool) (spent : ℕ) (ps : List Piece) (total : Account)
    → (g : GivesAgain r t run b s spent ps total) → Again r t run b s g.done ps total
done_again r t run b s spent ps total g =
    let to = b.at.end in
    let z = strip r t to (starts t to) g.done (after_given s (just (items ps))) (stack run.levels) total
    (subst (λ y. Resumes r t to (starts t to) y (stack run.levels) total) (given_work s g.done (just (items ps))) g.resumes) in
    record {
      left = z.0;
      does = z.1;
      ended = record { place = g.place; at_start = g.at_start; running = g.running; ends = (g.before, z.2) };
    }

-- behind it the call ends
pub record EndsBehind (work : List Entry) (total : Account) : Type 0 where
  pub count : ℕ
  pub rest : List Entry
  pub work_is : total.left.work ≡ work ++ (ended count ∷ rest)

pub again_ends : (r : Reading) (t : List ℕ) (run : TextRun) (b : Braces) (s : Bool) (spent : ℕ) (ps : List Piece) (total : Account)
    → (g : GivesAgain r t run b s spent ps total) → EndsBehind g.done total
again_ends r t run b s spent ps total g =
    let a = done_again r t run b s spent ps total g in
    let to = b.at.end in
    let xs = with_break s (trimmed_items (items ps)) in
    let n = length (sources xs) in
    let z = strip r t to (starts t to) (ended n ∷ []) (just xs) (stack run.levels) a.left a.ended.ends.1 in
    record {
      count = n;
      rest = (z.0).left.work;
      work_is = ap (λ (o : Output). o.work) a.does.left_is ∙ ap (λ (o : Output). g.done ++ o.work) (z.1).left_is;
    }

given_none : (s : Bool) → after_given s (just []) ≡ ended_with (just [])
unfolding trimmed_items
given_none s = refl

-- nothing is given
pub nothing_returns : (r : Reading) (t : List ℕ) (run : TextRun) (c : Choosing) (ps : List Piece) (text : List ℕ) (total : Account)
    → HasEnded r t run (task.Told c) ps total → text ≡ name_text (items ps) → asked (with_text c.chooser text) ≡ Nothing
    → Returns r t run c.call.at.end (ended_with (just [])) total
nothing_returns r t run c ps text total h is e =
    let to = c.call.at.end in
    let outs = parts_of_call r t c.call h.ends.choosing.call in
    let turn = turned c.chooser c.at_start outs ps text (just []) is (λ os. nothing_next (with_text c.chooser text) outs os e) ∙ given_none c.at_start in
    record {
      place = h.place;
      at_start = h.at_start;
      running = h.running;
      before = h.ends.within;
      resumes = subst (λ o. Resumes r t to (starts t to) o (stack run.levels) total) turn h.ends.gives;
    }

-- the part that is given has ended
pub given_returns : (r : Reading) (t : List ℕ) (run : TextRun) (b : Braces) (s : Bool) (ps qs : List Piece) (total : Account)
    → HasEnded r t run (task.Given b s) ps total → items qs ≡ with_break s (trimmed_items (items ps))
    → Returns r t run b.at.end (ended_with (just (items qs))) total
given_returns r t run b s ps qs total h e = record {
  place = h.place;
  at_start = h.at_start;
  running = h.running;
  before = h.ends.0;
  resumes = subst (λ (xs : List Item). Resumes r t b.at.end (starts t b.at.end) (ended_with (just xs)) (stack run.levels) total) (sym e) h.ends.1;
}
