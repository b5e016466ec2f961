-- How the logic stores a hand that contracts alone see.
use Rattle.std.specs.Prelude.{ℕ, Bool, List, Option, refl}
use Rattle.std.specs.Coded.{Coded, code_by, coded×, coded_ℕ, coded_bool, coded_list, coded_option}
use Rattle.entry_code.specs.declared.reading.Reading.{Reading}
use Rattle.run_core.specs.Hand.{Hand}

-- a reading is two numbers
abbrev pub coded_reading : Coded Reading
coded_reading = code_by (ℕ × ℕ) (coded× coded_ℕ coded_ℕ) (λ d. (d.known, d.corner)) (λ x. record { known = x.0; corner = x.1 }) (λ d. refl)

-- a hand is a number, a list of readings and a truth value
abbrev pub coded_hand : Coded (Option Hand)
coded_hand = coded_option (code_by (ℕ × (List Reading × Bool)) (coded× coded_ℕ (coded× (coded_list coded_reading) coded_bool))
    (λ h. (h.ticket, (h.reads, h.published))) (λ x. record { ticket = x.0; reads = x.1.0; published = x.1.1 }) (λ h. refl))
