use Rattle.play_engine.proofs.schedules.shown_output.Goals as goal

pub returns-in-Report : goal.returns-in-Report
returns-in-Report c = rw c.in-Report.is c.report_output.ensures

pub returns-in-Cut : goal.returns-in-Cut
returns-in-Cut c = rw c.in-Cut.is c.cut_output.ensures

pub returns-in-Why : goal.returns-in-Why
returns-in-Why c = rw c.in-Why.is c.why_output.ensures
