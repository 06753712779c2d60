-- What is still to be done of a text that is expanded: a number that every step makes smaller.
use Rattle.std.specs.Prelude.{◌≡◌, ◌<◌, ◌≤◌, ℕ, zero, suc, ◌+◌, ◌-◌, List, [], ◌∷◌, length}
use Rattle.wt_template_stack.specs.declared.level.Level.{Level}
use Rattle.wt_template_stack.specs.declared.level.Task.{Task}
use Rattle.wt_template_stack.specs.declared.level.Task.TheVariants as task
use Rattle.wt_template_stack.specs.declared.reader.Reader.{Reader}
use Rattle.wt_template_stack.specs.declared.run.StepOutcome.{StepOutcome}
use Rattle.wt_template_stack.specs.declared.run.StepOutcome.TheVariants as turn
use Rattle.wt_template_stack.specs.declared.run.TextRun.{TextRun}
use Rattle.wt_template_stack.specs.Stacks.{stack}

-- the bytes after the place up to which a text is read
abbrev pub bytes_left : Reader → ℕ
bytes_left r = length r.text.text.now - r.cursor.at

-- How many steps so many bytes may take. The first of them may begin a function by text: the bytes after it are then read twice at most,
-- once while its parts are told and once more for the part that it gives; and a level begins, ends, and gives way to another one.
abbrev pub most_steps : ℕ → ℕ
most_steps zero = 0
most_steps (suc n) = most_steps n + most_steps n + 3

-- How many steps the end of a level may still bring that the bytes after it don't: its own, that of the braces of a call that turns out to
-- be text, and those of a part that is read once more from after the first brace of its function on.
abbrev pub steps_behind : Task → ℕ
steps_behind task.Whole = 1
steps_behind (task.Argument call) = 1
steps_behind (task.Default call) = 1
steps_behind (task.Target call at_start) = 2
steps_behind (task.First choosing part_0) = most_steps (bytes_left choosing.begun - 1) + 2
steps_behind (task.Told choosing) = most_steps (bytes_left choosing.begun - 1) + 2
steps_behind (task.Given call at_start) = 1
steps_behind (task.Name pending end) = 1
steps_behind (task.Value pending name) = 1
steps_behind (task.Text call) = 1

abbrev pub steps_behind_all : List Level → ℕ
steps_behind_all [] = 0
steps_behind_all (l ∷ ls) = steps_behind l.task + steps_behind_all ls

-- how many steps are left of a text, at most
abbrev pub steps_left : TextRun → ℕ
steps_left run = most_steps (bytes_left run.reader) + steps_behind_all (stack run.levels)

-- fewer steps are left than before, unless the step was the last one
abbrev pub GetsOn : ℕ → ℕ → StepOutcome → Type 0
GetsOn before now turn.Went = now < before
GetsOn before now (turn.Done ps) = Unit {0}
GetsOn before now (turn.Called h) = now < before

-- what a level brings that begins where so many bytes are left: at the text's end none begins
abbrev pub brought : ℕ → ℕ → ℕ
brought zero k = 0
brought (suc n) k = k

-- a level with this task begins at a later place, if there is one
abbrev pub BeginsLater : TextRun → TextRun → Task → Type 0
BeginsLater old new k = (bytes_left new.reader ≤ bytes_left old.reader - 1)
    × (steps_behind_all (stack new.levels) ≡ brought (bytes_left old.reader) (steps_behind k) + steps_behind_all (stack old.levels))

-- a text as it comes after one step after the other: after each fewer steps are left than before
abbrev pub HaveFewerEach : TextRun → List TextRun → Type 0
HaveFewerEach run [] = Unit {0}
HaveFewerEach run (next ∷ later) = (steps_left next < steps_left run) × HaveFewerEach next later
