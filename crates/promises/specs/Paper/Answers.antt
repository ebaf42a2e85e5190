-- ANSWERS THAT ARE ENUMS: "Where an answer is an enum, a definition gives this paper's number and values for each of its cases, and the
-- promises use that definition." The record is here, with the reader's; the writer's is `written_said` (Paper.Writer).
use Rattle.std.specs.Prelude.{ℕ, List, [], ◌∷◌}
use Rattle.trace.specs.Told.{Found}

-- an answer in numbers: the refusal's number, 0 where nothing is refused; what is given; and its values, in the paper's order
pub record Said : Type 0 where
  pub code : ℕ
  -- 0 nothing, 1 sizes (they stand beside the answer), 2 a step, 3 a place
  pub gives : ℕ
  pub values : List ℕ

-- what a read found. "A refused read gives the number, the record's number and no step"; a step is "kind, caller, object .. a, timeout"
abbrev pub found_said : Found → Said
found_said Found.Opened = record { code = 0; gives = 1; values = [] }
found_said (Found.Stepped x) =
    record { code = 0; gives = 2; values = x.kind ∷ x.caller ∷ x.object ∷ x.a ∷ x.timeout ∷ [] }
found_said Found.Ended = record { code = 0; gives = 0; values = [] }
found_said (Found.Refused code number) = record { code = code; gives = 0; values = number ∷ [] }
