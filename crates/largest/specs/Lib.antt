pub mod Chosen
pub mod ExchangeLaws
pub mod ChosenLaws
