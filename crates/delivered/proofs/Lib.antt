pub mod DeliveredLaws
pub mod PlanLaws
pub mod Responses
pub mod Demand3
pub mod DemandResponses
