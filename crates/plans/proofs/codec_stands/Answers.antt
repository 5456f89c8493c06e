use Rattle.plans.proofs.Accepted.{accepted_is_a_plan}
use Rattle.plans.proofs.Back.{encoding_is_read_back, bytes_tell_plans_apart}
use Rattle.plans.proofs.Verdicts.{tests_are_the_rules, each_plan_is_legal}
use Rattle.plans.proofs.codec_stands.Goals as goal

pub returns : goal.returns
returns c =
    record {
      rules = tests_are_the_rules;
      legal = each_plan_is_legal;
      back = encoding_is_read_back;
      accepted = accepted_is_a_plan;
      apart = bytes_tell_plans_apart;
    }
