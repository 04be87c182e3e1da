use Rattle.low_tests.proofs.SpeakerExamples.{speakers_puts_commute, counters_do_not_commute}
use Rattle.low_tests.proofs.tests.run_model_tests.orders.puts_of_speakers_commute.Goals as goal

pub returns : goal.returns
returns c = record { speakers = speakers_puts_commute; counters = counters_do_not_commute }
