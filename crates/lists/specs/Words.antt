-- The words of docs/COMPARE.md, each with the blank behind it, 32: those of the objects, and those of an object's fields. A field of several has
-- its place in brackets, 91 and 93, behind its word.
use Rattle.std.specs.Prelude.{ℕ, ◌-◌, Bool, true, false, cond, ◌||◌, List, [], ◌∷◌, ◌++◌, eqb, ltb}
use Rattle.buffers.specs.Decimal.{decimal}

-- `thread`, `reference`, `queue`, `semaphore`, `mailbox`, `pool`, `clock`, `steps`; no word for another
unfoldable pub object_word : ℕ → List ℕ
object_word o =
    cond (eqb o 0) (116 ∷ 104 ∷ 114 ∷ 101 ∷ 97 ∷ 100 ∷ 32 ∷ [])
    (cond (eqb o 1) (114 ∷ 101 ∷ 102 ∷ 101 ∷ 114 ∷ 101 ∷ 110 ∷ 99 ∷ 101 ∷ 32 ∷ [])
    (cond (eqb o 2) (113 ∷ 117 ∷ 101 ∷ 117 ∷ 101 ∷ 32 ∷ [])
    (cond (eqb o 3) (115 ∷ 101 ∷ 109 ∷ 97 ∷ 112 ∷ 104 ∷ 111 ∷ 114 ∷ 101 ∷ 32 ∷ [])
    (cond (eqb o 4) (109 ∷ 97 ∷ 105 ∷ 108 ∷ 98 ∷ 111 ∷ 120 ∷ 32 ∷ [])
    (cond (eqb o 5) (112 ∷ 111 ∷ 111 ∷ 108 ∷ 32 ∷ [])
    (cond (eqb o 6) (99 ∷ 108 ∷ 111 ∷ 99 ∷ 107 ∷ 32 ∷ [])
    (cond (eqb o 7) (115 ∷ 116 ∷ 101 ∷ 112 ∷ 115 ∷ 32 ∷ []) [])))))))

-- `state`, `place`, `remaining`, `pending`, `awaited`, `message`, `call.kind`, `call.object`, `call.operand`, `call.timeout`,
-- `answer.message`, `answer.datum`, `cause`, `step`
unfoldable pub thread_word : ℕ → List ℕ
thread_word f =
    cond (eqb f 0) (115 ∷ 116 ∷ 97 ∷ 116 ∷ 101 ∷ 32 ∷ [])
    (cond (eqb f 1) (112 ∷ 108 ∷ 97 ∷ 99 ∷ 101 ∷ 32 ∷ [])
    (cond (eqb f 2) (114 ∷ 101 ∷ 109 ∷ 97 ∷ 105 ∷ 110 ∷ 105 ∷ 110 ∷ 103 ∷ 32 ∷ [])
    (cond (eqb f 3) (112 ∷ 101 ∷ 110 ∷ 100 ∷ 105 ∷ 110 ∷ 103 ∷ 32 ∷ [])
    (cond (eqb f 4) (97 ∷ 119 ∷ 97 ∷ 105 ∷ 116 ∷ 101 ∷ 100 ∷ 32 ∷ [])
    (cond (eqb f 5) (109 ∷ 101 ∷ 115 ∷ 115 ∷ 97 ∷ 103 ∷ 101 ∷ 32 ∷ [])
    (cond (eqb f 6) (99 ∷ 97 ∷ 108 ∷ 108 ∷ 46 ∷ 107 ∷ 105 ∷ 110 ∷ 100 ∷ 32 ∷ [])
    (cond (eqb f 7) (99 ∷ 97 ∷ 108 ∷ 108 ∷ 46 ∷ 111 ∷ 98 ∷ 106 ∷ 101 ∷ 99 ∷ 116 ∷ 32 ∷ [])
    (cond (eqb f 8) (99 ∷ 97 ∷ 108 ∷ 108 ∷ 46 ∷ 111 ∷ 112 ∷ 101 ∷ 114 ∷ 97 ∷ 110 ∷ 100 ∷ 32 ∷ [])
    (cond (eqb f 9) (99 ∷ 97 ∷ 108 ∷ 108 ∷ 46 ∷ 116 ∷ 105 ∷ 109 ∷ 101 ∷ 111 ∷ 117 ∷ 116 ∷ 32 ∷ [])
    (cond (eqb f 10) (97 ∷ 110 ∷ 115 ∷ 119 ∷ 101 ∷ 114 ∷ 46 ∷ 109 ∷ 101 ∷ 115 ∷ 115 ∷ 97 ∷ 103 ∷ 101 ∷ 32 ∷ [])
    (cond (eqb f 11) (97 ∷ 110 ∷ 115 ∷ 119 ∷ 101 ∷ 114 ∷ 46 ∷ 100 ∷ 97 ∷ 116 ∷ 117 ∷ 109 ∷ 32 ∷ [])
    (cond (eqb f 12) (99 ∷ 97 ∷ 117 ∷ 115 ∷ 101 ∷ 32 ∷ [])
    (cond (eqb f 13) (115 ∷ 116 ∷ 101 ∷ 112 ∷ 32 ∷ []) [])))))))))))))

-- a word and a place in brackets
abbrev pub placed : List ℕ → ℕ → List ℕ
placed word i = word ++ (91 ∷ (decimal i ++ (93 ∷ 32 ∷ [])))

-- `writers`, `readers`, `read`, `write`, `count`, `reset`, `messages[0]` ..
unfoldable pub box_word : ℕ → List ℕ
box_word f =
    cond (eqb f 0) (119 ∷ 114 ∷ 105 ∷ 116 ∷ 101 ∷ 114 ∷ 115 ∷ 32 ∷ [])
    (cond (eqb f 1) (114 ∷ 101 ∷ 97 ∷ 100 ∷ 101 ∷ 114 ∷ 115 ∷ 32 ∷ [])
    (cond (eqb f 2) (114 ∷ 101 ∷ 97 ∷ 100 ∷ 32 ∷ [])
    (cond (eqb f 3) (119 ∷ 114 ∷ 105 ∷ 116 ∷ 101 ∷ 32 ∷ [])
    (cond (eqb f 4) (99 ∷ 111 ∷ 117 ∷ 110 ∷ 116 ∷ 32 ∷ [])
    (cond (eqb f 5) (114 ∷ 101 ∷ 115 ∷ 101 ∷ 116 ∷ 32 ∷ []) (placed (109 ∷ 101 ∷ 115 ∷ 115 ∷ 97 ∷ 103 ∷ 101 ∷ 115 ∷ []) (f - 6)))))))

-- `counter`
abbrev pub counter_word : List ℕ
counter_word = 99 ∷ 111 ∷ 117 ∷ 110 ∷ 116 ∷ 101 ∷ 114 ∷ 32 ∷ []

-- `counter`, `length`, `list[0]` .., `marks[0]` ..
unfoldable pub pool_word : ℕ → List ℕ
pool_word f =
    cond (eqb f 0) counter_word
    (cond (eqb f 1) (108 ∷ 101 ∷ 110 ∷ 103 ∷ 116 ∷ 104 ∷ 32 ∷ [])
    (cond (ltb f 34) (placed (108 ∷ 105 ∷ 115 ∷ 116 ∷ []) (f - 2)) (placed (109 ∷ 97 ∷ 114 ∷ 107 ∷ 115 ∷ []) (f - 34))))

-- `time`, `frequency`
abbrev pub clock_word : ℕ → List ℕ
clock_word f = cond (eqb f 0) (116 ∷ 105 ∷ 109 ∷ 101 ∷ 32 ∷ []) (102 ∷ 114 ∷ 101 ∷ 113 ∷ 117 ∷ 101 ∷ 110 ∷ 99 ∷ 121 ∷ 32 ∷ [])

-- the word of an object's field; `holder` of a reference, `number` of the steps
unfoldable pub field_word : ℕ → ℕ → List ℕ
field_word o f =
    cond (eqb o 0) (thread_word f)
    (cond (eqb o 1) (104 ∷ 111 ∷ 108 ∷ 100 ∷ 101 ∷ 114 ∷ 32 ∷ [])
    (cond (eqb o 2) counter_word
    (cond (eqb o 3) counter_word
    (cond (eqb o 4) (box_word f)
    (cond (eqb o 5) (pool_word f)
    (cond (eqb o 6) (clock_word f) (110 ∷ 117 ∷ 109 ∷ 98 ∷ 101 ∷ 114 ∷ 32 ∷ [])))))))

-- how many fields a row of an object has
unfoldable pub fields_of : ℕ → ℕ
fields_of o =
    cond (eqb o 0) 14
    (cond (eqb o 1) 1 (cond (eqb o 2) 1 (cond (eqb o 3) 1 (cond (eqb o 4) 22 (cond (eqb o 5) 66 (cond (eqb o 6) 2 (cond (eqb o 7) 1 0)))))))

-- a thread's messages and all counters are shown with their sign
unfoldable pub is_signed : ℕ → ℕ → Bool
is_signed o f =
    cond (eqb o 0) (eqb f 5 || eqb f 10)
    (cond (eqb o 2) true (cond (eqb o 3) true (cond (eqb o 4) (ltb f 2) (cond (eqb o 5) (eqb f 0) false))))
