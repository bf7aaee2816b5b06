use Rattle.tso.proofs.Addresses.{addresses_are_named}
use Rattle.tso.proofs.Restriction.{next-restricted, runs_as_answered, opens_at_starting_words, touches_held_words, outcome_by_named_words}
use Rattle.tso.proofs.laws.outcomes_stand.Goals as goal

pub returns : goal.returns
returns c = record { answered = runs_as_answered; named = addresses_are_named; opens = opens_at_starting_words; held = touches_held_words; moves = next-restricted; outcome = outcome_by_named_words }
