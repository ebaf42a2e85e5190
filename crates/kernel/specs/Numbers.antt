-- The numbers that the manual and document 01 fix, each under one name. `src/numbers.rt` has the same.
use Rattle.std.specs.Prelude.{ℕ, ℤ, pos, negsuc}

-- no thread: idle, an interrupt, an empty reference
abbrev pub nobody : ℕ
nobody = 255

-- the place of a thread that waits on no object; only a queued or a suspended thread's place is read
abbrev pub nowhere : ℕ
nowhere = 0

-- the rows of the threads' table
abbrev pub threads : ℕ
threads = 16

-- a thread's states
abbrev pub ready : ℕ
ready = 0

abbrev pub sleeping : ℕ
sleeping = 1

abbrev pub suspended : ℕ
suspended = 2

abbrev pub queued : ℕ
queued = 3

abbrev pub awaiting : ℕ
awaiting = 4

-- messages
abbrev pub ok : ℤ
ok = pos 0

abbrev pub timed_out : ℤ
timed_out = negsuc 0

abbrev pub was_reset : ℤ
was_reset = negsuc 1

-- what a signal answers that did not count
abbrev pub not_counted : ℤ
not_counted = pos 1

-- causes of a waking: "none yet, signal, release, resume, event, post, fetch, reset or tick" (document 02)
abbrev pub no_cause : ℕ
no_cause = 0

abbrev pub by_signal : ℕ
by_signal = 1

abbrev pub by_release : ℕ
by_release = 2

abbrev pub by_resume : ℕ
by_resume = 3

abbrev pub by_event : ℕ
by_event = 4

abbrev pub by_post : ℕ
by_post = 5

abbrev pub by_fetch : ℕ
by_fetch = 6

abbrev pub by_reset : ℕ
by_reset = 7

abbrev pub by_tick : ℕ
by_tick = 8

-- the last number of a step
abbrev pub last_step : ℕ
last_step = 4294967295

-- the top of a counter
abbrev pub top : ℤ
top = pos 2147483647

-- ticks a second where no frequency is given; neither the 1000 that is given where a trace is printed, nor that of a settings file of
-- version 1 (document 02, 11/13)
abbrev pub usual_frequency : ℕ
usual_frequency = 10000

-- intervals
abbrev pub immediate : ℕ
immediate = 0

abbrev pub infinite : ℕ
infinite = 4294967295

-- kinds of step
abbrev pub sleep_for : ℕ
sleep_for = 11

abbrev pub sleep_until : ℕ
sleep_until = 12

abbrev pub event_wait : ℕ
event_wait = 14
