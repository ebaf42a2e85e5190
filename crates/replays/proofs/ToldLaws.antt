-- Two traces under way of which the same is told are the same.
use Rattle.std.proofs.Common.{◌≡◌, ℕ, Bool, cond, refl, ap, ap₂, arith, Result, Ok, Err, Option, Some, None, is_some}
use Rattle.kernel.specs.declared.refusals.Refusal.{Refusal}
use Rattle.kernel.proofs.ToldLaws.{number-one, number-some}
use Rattle.trace.specs.declared.decoding.BadRecord.{BadRecord}
use Rattle.replays.specs.declared.replaying.Replayed as declared
use Rattle.replays.specs.Told.{Replayed, over, bad_code, bad_number}
use Rattle.replays.specs.Replaying.{told_replayed}

pub over-is : (e : Option (Result (Unit {0}) BadRecord)) → over e ≡ is_some e
over-is None = refl
over-is (Some r) = refl

-- 1 where reading is at its end
abbrev counted : Bool → ℕ
counted b = cond b 1 0

end-one : (e f : Option (Result (Unit {0}) BadRecord)) → over e ≡ over f → bad_code e ≡ bad_code f → bad_number e ≡ bad_number f → e ≡ f
end-one None None o c n = refl
end-one None (Some f) o c n = absurd (omega (arith, ap counted o))
end-one (Some e) None o c n = absurd (omega (arith, ap counted o))
end-one (Some (Ok e)) (Some (Ok f)) o c n = refl
end-one (Some (Ok e)) (Some (Err f)) o c n = absurd (omega (arith, number-some f.why, c))
end-one (Some (Err e)) (Some (Ok f)) o c n = absurd (omega (arith, number-some e.why, c))
end-one (Some (Err e)) (Some (Err f)) o c n =
    ap₂ (λ (w : Refusal) (k : ℕ). Some (Err (record { why = w; number = k }))) (number-one c) n

pub replayed-one : {x y : declared.Replayed} → told_replayed x ≡ told_replayed y → x ≡ y
replayed-one {x} {y} t =
    let kept : x.kept ≡ y.kept = ap (λ (z : Replayed). z.kept) t in
    let place : x.at ≡ y.at = ap (λ (z : Replayed). z.at) t in
    let end : x.end ≡ y.end =
    end-one x.end y.end (ap (λ (z : Replayed). z.done) t) (ap (λ (z : Replayed). z.code) t) (ap (λ (z : Replayed). z.number) t) in
    rw (kept, place, end) refl
